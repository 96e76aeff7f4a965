-- The first line of some bytes that can't be continued to a certificate's text.
use Rattle.std.specs.Prelude.{◌≡◌, ℕ, List, ◌++◌}
use Rattle.own_cert.specs.declared.certificate.Certificate.{Certificate}
use Rattle.conflict_proof.specs.declared.faults.Reason.TheVariants.{Form}
use Rattle.conflict_proof.specs.declared.faults.TextError.{TextError}
use Rattle.conflict_proof.specs.declared.faults.TextError.TheVariants as error
use Rattle.line_texts.specs.Lines.{IsFirstBadLineOf}
use Rattle.own_cert.specs.Values.{IsCertificate, IsTextOf}

-- the bytes can be continued to a text
abbrev pub BeginsText : List ℕ → Type 0
BeginsText bs = (c : Certificate) × IsCertificate c × (more : List ℕ) × IsTextOf c (bs ++ more)

-- the bytes are no certificate's text
abbrev pub IsNoText : List ℕ → Type 0
IsNoText bs = (c : Certificate) → IsCertificate c → IsTextOf c bs → ⊥

-- what a refusal to read the bytes says of them
abbrev pub Refuses : List ℕ → TextError → Type 0
Refuses bs error.Memory = Unit {0}
Refuses bs (error.Invalid bad) = (bad.reason ≡ Form) × IsNoText bs × IsFirstBadLineOf BeginsText bs bad.line
