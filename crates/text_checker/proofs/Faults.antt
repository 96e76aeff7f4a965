-- What is not valid, and why.
use Rattle.std.proofs.Common.{◌≡◌, ℕ, List, ap, subst}
use Rattle.conflict_proof.specs.declared.derivation.Derivation.{Derivation}
use Rattle.conflict_proof.specs.declared.faults.BadLine.{BadLine}
use Rattle.conflict_proof.specs.declared.faults.TextError.TheVariants as text_error
use Rattle.conflict_proof.specs.declared.faults.CheckError.{CheckError}
use Rattle.conflict_proof.specs.declared.faults.CheckError.TheVariants as error
use Rattle.conflict_proof.specs.Values.{IsDerivation}
use Rattle.conflict_proof.specs.Text.{derivation_text}
use Rattle.conflict_proof.specs.Fault as derivation_texts
use Rattle.own_cert.specs.declared.certificate.Certificate.{Certificate}
use Rattle.own_cert.specs.Values.{IsCertificate, IsTextOf}
use Rattle.own_cert.specs.Fault as certificate_texts
use Rattle.transfer_rules.specs.Programs.{Parts}
use Rattle.verdict_meaning.specs.Solutions.{all_names}
use Rattle.verdict_meaning.specs.Programs.{system_in}
use Rattle.verdict_meaning.specs.Derivations.{IsValidIn, Refutes}
use Rattle.verdict_meaning.specs.Certificates.{IsGoodCertificate}
use Rattle.proof_checker.specs.Checking as derivations
use Rattle.cert_checker.specs.Checking as certificates
use Rattle.text_checker.specs.Verified.{BeginsDerivation, IsValidText, derivation, certificate, no_derivation, wrong_derivation, no_certificate, wrong_certificate, IsInvalid, IsRefused, IsLineIn}
use Rattle.text_checker.proofs.Headers as headers

-- the text of a derivation is valid for its derivation alone
module _ (p : Parts) (text : List ℕ) (begins : BeginsDerivation text) where
  pub unread_derivation : (bad : BadLine) → derivation_texts.Refuses text (text_error.Invalid bad) → IsInvalid p text bad
  unread_derivation bad refuses = record { fault = no_derivation begins refuses; never = never }
    where
      never : IsValidText p text → ⊥
      never (derivation d is e accepted) = refuses.1 d is e
      never (certificate c other is of good runs) = other begins

  pub refuted : (d : Derivation) (e : CheckError) → IsDerivation d → text ≡ derivation_text d
      → ((e : Derivation) → IsDerivation e → text ≡ derivation_text e → e ≡ d)
      → derivations.IsRefused (system_in p) all_names d.lines e → IsRefused p text e
  refuted d error.Memory is said only r = tt
  refuted d (error.Invalid bad) is said only r = record { fault = wrong_derivation d is said r.fault; never = never }
    where
      never : IsValidText p text → ⊥
      never (derivation e is' said' accepted) =
          let same : e.lines ≡ d.lines = ap (λ (x : Derivation). x.lines) (only e is' said') in
          r.neither (subst (IsValidIn (system_in p) all_names) same accepted.valid) (subst (Refutes (system_in p)) same accepted.refutes)
      never (certificate c other is' of good runs) = other begins

-- another text is valid for its certificate alone
module _ (p : Parts) (text : List ℕ) (other : BeginsDerivation text → ⊥) where
  pub unread_certificate : (bad : BadLine) → certificate_texts.Refuses text (text_error.Invalid bad) → IsInvalid p text bad
  unread_certificate bad refuses = record { fault = no_certificate other refuses; never = never }
    where
      never : IsValidText p text → ⊥
      never (derivation d is e accepted) = other (headers.derivation_begins d text e)
      never (certificate c other' is of good runs) = refuses.1 c is of

  pub not_good : (c : Certificate) (bad : BadLine) (line : ℕ) → IsCertificate c → IsTextOf c text
      → ((e : Certificate) → IsCertificate e → IsTextOf e text → e ≡ c)
      → certificates.IsRejected (system_in p) all_names c (record { line = line; reason = bad.reason })
      → IsLineIn c text line bad.line → IsInvalid p text bad
  not_good c bad line is of only r there =
      record { fault = wrong_certificate c line other is of r.fault there; never = never }
    where
      never : IsValidText p text → ⊥
      never (derivation d is' e accepted) = other (headers.derivation_begins d text e)
      never (certificate e other' is' of' good runs) = r.never (subst (IsGoodCertificate (system_in p)) (only e is' of') good)
