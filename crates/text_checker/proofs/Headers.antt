-- The first lines of texts tell them apart.
use Rattle.std.proofs.Common.{◌≡◌, ℕ, List, [], ◌∷◌, ◌++◌, sym, ap, ◌∙◌, drop, length, get_or, map, arith}
use Rattle.line_texts.specs.Lines.{with_line_feeds}
use Rattle.conflict_proof.specs.declared.derivation.Derivation.{Derivation}
use Rattle.conflict_proof.specs.Text.{derivation_text, line_text, end_text}
use Rattle.own_cert.specs.declared.certificate.Certificate.{Certificate}
use Rattle.own_cert.specs.Text.{certificate_text_1, certificate_text_2}
use Rattle.own_cert.specs.Holders.{BeginsSecond}
use Rattle.text_checker.specs.Verified.{BeginsDerivation}

-- the bytes of their versions differ
pub first_no_second : (c : Certificate) (text : List ℕ) → text ≡ certificate_text_1 c → BeginsSecond text → ⊥
first_no_second c text e begins = let h : ◌≡◌ {A = ℕ} 49 50 = ap (λ (w : List ℕ). get_or w 21 0) (sym e ∙ begins.1) in absurd (omega (arith, h))

pub second_begins : (c : Certificate) (text : List ℕ) → text ≡ certificate_text_2 c → BeginsSecond text
second_begins c text e = (drop 23 (certificate_text_2 c), e)

pub derivation_begins : (d : Derivation) (text : List ℕ) → text ≡ derivation_text d → BeginsDerivation text
derivation_begins d text e = (with_line_feeds (map line_text d.lines ++ end_text (length d.lines) ∷ []), e)
