-- What the checker answers.
use Rattle.std.specs.Prelude.{◌≡◌, ℕ, ◌<◌, ◌≤◌, ◌⊎◌, Bool, ⊤, List, Option, Some, None, slice_get}
use Rattle.std.specs.List.{Contains}
use Rattle.zo_core.specs.Truth.{all_true}
use Rattle.conflict_proof.specs.declared.names.ConstraintName.{ConstraintName}
use Rattle.conflict_proof.specs.declared.faults.Reason.{Reason}
use Rattle.conflict_proof.specs.declared.faults.BadLine.{BadLine}
use Rattle.conflict_proof.specs.declared.faults.CheckError.{CheckError}
use Rattle.conflict_proof.specs.declared.faults.CheckError.TheVariants as error
use Rattle.own_cert.specs.declared.certificate.Certificate.{Certificate}
use Rattle.verdict_meaning.specs.Systems.{System}
use Rattle.verdict_meaning.specs.Certificates.{IsGoodIn}
use Rattle.verdict_meaning.specs.CertificateFaults.{HasFault, IsFirstFault, rank}

-- what Invalid says: this is the first faulty line with its reason, and the certificate is not good
pub record IsRejected (s : System) (U : ConstraintName → Bool) (c : Certificate) (bad : BadLine) : Type 0 where
  pub fault : IsFirstFault s U c bad
  pub never : IsGoodIn s U c → ⊥

-- what a refusal says; want of memory says nothing
abbrev pub IsRefused : System → (ConstraintName → Bool) → Certificate → CheckError → Type 0
IsRefused s U c error.Memory = ⊤
IsRefused s U c (error.Invalid bad) = IsRejected s U c bad

-- the same answers before they are given out
abbrev pub IsVerdict : System → (ConstraintName → Bool) → Certificate → Option BadLine → Type 0
IsVerdict s U c None = IsGoodIn s U c
IsVerdict s U c (Some bad) = IsFirstFault s U c bad

-- Of the faults whose reasons come before this one

-- this is the first
pub record IsFirstOf (r : ℕ) (s : System) (U : ConstraintName → Bool) (c : Certificate) (bad : BadLine) : Type 0 where
  pub fault : HasFault s U c bad.reason bad.line
  pub among : rank bad.reason < r
  pub first : (why : Reason) (line : ℕ) → HasFault s U c why line → rank why < r → (bad.line < line) ⊎ ((bad.line ≡ line) × (rank bad.reason ≤ rank why))

-- none, or the first of them
abbrev pub IsFirstAmong : ℕ → System → (ConstraintName → Bool) → Certificate → Option BadLine → Type 0
IsFirstAmong r s U c None = (why : Reason) (line : ℕ) → HasFault s U c why line → rank why < r → ⊥
IsFirstAmong r s U c (Some bad) = IsFirstOf r s U c bad

-- the line of a fault, none where there is none
abbrev pub bound_of : Option BadLine → Option ℕ
bound_of None = None
bound_of (Some bad) = Some bad.line

-- the fault on this line, where there is one, and else the first one before
abbrev pub nearer : Reason → Option ℕ → Option BadLine → Option BadLine
nearer why None first = first
nearer why (Some line) first = Some (record { line = line; reason = why })
