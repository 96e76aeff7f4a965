-- What is said of a text that is to show a verdict on a program: a derivation or a certificate.
use Rattle.std.specs.Prelude.{◌≡◌, ℕ, ◌≤◌, ⊤, List, ◌++◌, codes}
use Rattle.conflict_proof.specs.declared.derivation.Derivation.{Derivation}
use Rattle.conflict_proof.specs.declared.faults.BadLine.{BadLine}
use Rattle.conflict_proof.specs.declared.faults.TextError.TheVariants as text_error
use Rattle.conflict_proof.specs.declared.faults.CheckError.{CheckError}
use Rattle.conflict_proof.specs.declared.faults.CheckError.TheVariants as error
use Rattle.conflict_proof.specs.Values.{IsDerivation}
use Rattle.conflict_proof.specs.Text.{derivation_text}
use Rattle.conflict_proof.specs.Fault as derivation_texts
use Rattle.own_cert.specs.declared.certificate.Certificate.{Certificate}
use Rattle.own_cert.specs.Values.{IsCertificate, IsTextOf}
use Rattle.own_cert.specs.Text.{certificate_text_1, certificate_text_2}
use Rattle.own_cert.specs.Holders.{IsHolder}
use Rattle.own_cert.specs.Fault as certificate_texts
use Rattle.transfer_rules.specs.Programs.{Parts}
use Rattle.verdict_meaning.specs.Solutions.{all_names}
use Rattle.verdict_meaning.specs.Programs.{system_in}
use Rattle.verdict_meaning.specs.Certificates.{IsGoodCertificate}
use Rattle.verdict_meaning.specs.CertificateFaults as certificates
use Rattle.verdict_meaning.specs.DerivationFaults as derivations
use Rattle.proof_checker.specs.Checking.{IsAccepted}
use Rattle.cert_checker.specs.Owned.{RunsHaveOwners}

-- the first line is that of a derivation's text
abbrev pub BeginsDerivation : List ℕ → Type 0
BeginsDerivation text = (rest : List ℕ) × (text ≡ codes "clouseau derivation 1\n" ++ rest)

-- What a valid text shows of a program. It is the text of a derivation that is valid and refutes, so that the constraints that
-- it uses cannot be met together; or it does not begin as one, and is a text, of either version, of a certificate that is good, so
-- that in every run of the program each live object has one owner by its marks and no step is a double free.
pub data IsValidText (p : Parts) (text : List ℕ) : Type 0 where
  derivation : (d : Derivation) → IsDerivation d → text ≡ derivation_text d → IsAccepted (system_in p) all_names d.lines → IsValidText p text
  certificate : (c : Certificate) → (BeginsDerivation text → ⊥) → IsCertificate c → IsTextOf c text → IsGoodCertificate (system_in p) c
      → RunsHaveOwners p c → IsValidText p text

-- Line m of a text of the certificate says what line n of its first text says: in the first text it is that line, and in the second
-- one the line that holds it
pub record IsLineIn (c : Certificate) (text : List ℕ) (n m : ℕ) : Type 0 where
  pub in_first : text ≡ certificate_text_1 c → m ≡ n
  pub in_second : text ≡ certificate_text_2 c → IsHolder c n m

-- The first faulty line of a text and its reason. The first line tells whether it is read as a derivation or as a certificate.
-- Where it is the text of none, the first line that cannot be continued to one is faulty; else the first fault of what it says
-- counts, by the lines of the text.
pub data HasFirstFault (p : Parts) (text : List ℕ) (bad : BadLine) : Type 0 where
  no_derivation : BeginsDerivation text → derivation_texts.Refuses text (text_error.Invalid bad) → HasFirstFault p text bad
  wrong_derivation : (d : Derivation) → IsDerivation d → text ≡ derivation_text d → derivations.IsFirstFault (system_in p) all_names d.lines bad
      → HasFirstFault p text bad
  no_certificate : (BeginsDerivation text → ⊥) → certificate_texts.Refuses text (text_error.Invalid bad) → HasFirstFault p text bad
  wrong_certificate : (c : Certificate) (line : ℕ) → (BeginsDerivation text → ⊥) → IsCertificate c → IsTextOf c text
      → certificates.IsFirstFault (system_in p) all_names c (record { line = line; reason = bad.reason }) → IsLineIn c text line bad.line
      → HasFirstFault p text bad

-- what Invalid says: this is the first faulty line, and the text is not valid
pub record IsInvalid (p : Parts) (text : List ℕ) (bad : BadLine) : Type 0 where
  pub fault : HasFirstFault p text bad
  pub never : IsValidText p text → ⊥

-- what a refusal says; want of memory says nothing
abbrev pub IsRefused : Parts → List ℕ → CheckError → Type 0
IsRefused p text error.Memory = ⊤
IsRefused p text (error.Invalid bad) = IsInvalid p text bad

-- a line of the certificate's first text
pub record IsFirstLine (c : Certificate) (line : ℕ) : Type 0 where
  pub some : 1 ≤ line
  pub within : line ≤ certificates.end_line c.instances
