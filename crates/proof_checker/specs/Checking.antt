-- What the checker answers.
use Rattle.std.specs.Prelude.{◌≡◌, ℕ, ◌<◌, ◌≤◌, Bool, true, ⊤, List, Option, Some, None}
use Rattle.std.specs.List.{Contains}
use Rattle.zo_core.specs.Literals.{Literal, opposite}
use Rattle.conflict_proof.specs.declared.names.ConstraintName.{ConstraintName}
use Rattle.conflict_proof.specs.declared.derivation.How.{How}
use Rattle.conflict_proof.specs.declared.derivation.How.TheVariants.{Axiom, Resolve, Inst}
use Rattle.conflict_proof.specs.declared.derivation.Line.{Line}
use Rattle.conflict_proof.specs.declared.faults.Reason.{Reason}
use Rattle.conflict_proof.specs.declared.faults.Reason.TheVariants as reason
use Rattle.conflict_proof.specs.declared.faults.BadLine.{BadLine}
use Rattle.conflict_proof.specs.declared.faults.CheckError.{CheckError}
use Rattle.conflict_proof.specs.declared.faults.CheckError.TheVariants as error
use Rattle.verdict_meaning.specs.Systems.{System, root}
use Rattle.verdict_meaning.specs.Solutions.{IsSatisfiableOnly}
use Rattle.verdict_meaning.specs.Derivations.{line_at, IsClauseOf, IsRightLine, IsValidIn, Refutes}
use Rattle.verdict_meaning.specs.DerivationFaults.{HasFault, IsFirstFault, premises, text_line, rank}
use Rattle.verdict_meaning.specs.UsedNames.{AreUsedNames}

-- What Ok says: the derivation is valid with the constraints that count, and refutes. So those that it uses cannot be met
-- together, whatever others count.
pub record IsAccepted (s : System) (U : ConstraintName → Bool) (lines : List Line) : Type 0 where
  pub valid : IsValidIn s U lines
  pub refutes : Refutes s lines
  pub unsatisfiable : (names : List ConstraintName) → AreUsedNames lines names
      → (V : ConstraintName → Bool) → ((name : ConstraintName) → Contains names name → V name ≡ true) → IsSatisfiableOnly s V → ⊥

-- what Invalid says: this is the first faulty line, and the derivation is not both
pub record IsRejected (s : System) (U : ConstraintName → Bool) (lines : List Line) (bad : BadLine) : Type 0 where
  pub fault : IsFirstFault s U lines bad
  pub neither : IsValidIn s U lines → Refutes s lines → ⊥

-- what a refusal says; want of memory says nothing
abbrev pub IsRefused : System → (ConstraintName → Bool) → List Line → CheckError → Type 0
IsRefused s U lines error.Memory = ⊤
IsRefused s U lines (error.Invalid bad) = IsRejected s U lines bad

-- the same answers before they are given out
abbrev pub IsVerdict : System → (ConstraintName → Bool) → List Line → Option BadLine → Type 0
IsVerdict s U lines None = IsValidIn s U lines × Refutes s lines
IsVerdict s U lines (Some bad) = IsFirstFault s U lines bad

-- One line

-- the lines that are named are there, and earlier
abbrev pub AreEarlier : How → ℕ → Type 0
AreEarlier how n = (i : ℕ) → Contains (premises how) i → (0 < i) × (i < n)

-- some line is named that is not
abbrev pub IsLaterNamed : How → ℕ → Type 0
IsLaterNamed how n = (i : ℕ) × Contains (premises how) i × (0 < i → i < n → ⊥)

-- nothing is named that is not there
pub record IsInRange (s : System) (n : ℕ) (line : Line) : Type 0 where
  pub group : line.group ≤ root s
  pub earlier : AreEarlier line.how n
  pub unknowns : IsClauseOf s line.group line.lits

-- the reason of a line in range that is not what it says it is
abbrev pub reason_of : How → Reason
reason_of (Axiom name) = reason.Axiom
reason_of (Resolve i j) = reason.Resolvent
reason_of (Inst i site) = reason.Inst

-- a fault at line n for this reason, and none there for one that comes before it
pub record IsFirstReason (s : System) (U : ConstraintName → Bool) (lines : List Line) (n : ℕ) (why : Reason) : Type 0 where
  pub fault : HasFault s U lines why (text_line n)
  pub first : (other : Reason) → HasFault s U lines other (text_line n) → rank why ≤ rank other

-- what is said of line n
abbrev pub IsLineVerdict : System → (ConstraintName → Bool) → List Line → ℕ → Option Reason → Type 0
IsLineVerdict s U lines n None = (line : Line) × (line_at lines n ≡ Some line) × IsRightLine s U lines n line
IsLineVerdict s U lines n (Some why) = IsFirstReason s U lines n why

-- Two clauses

-- a holds x and b its opposite
abbrev pub IsPivot : List Literal → List Literal → Literal → Type 0
IsPivot a b x = Contains a x × Contains b (opposite x)
