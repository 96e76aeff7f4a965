-- The names of the constraints of which marked lines are clauses.
use Rattle.std.specs.Prelude.{◌≡◌, ◌≢◌, ℕ, ◌<◌, Bool, true, false, List, Some, slice_get, slice_index_or}
use Rattle.std.specs.List.{Contains}
use Rattle.conflict_proof.specs.declared.names.ConstraintName.{ConstraintName}
use Rattle.conflict_proof.specs.declared.derivation.How.TheVariants.{Axiom}
use Rattle.conflict_proof.specs.declared.derivation.Line.{Line}
use Rattle.verdict_meaning.specs.Solutions.{same_rule}

-- one of the first k lines is marked and a clause of the constraint of this name, which is not always in force
pub record IsPicked (lines : List Line) (marks : List Bool) (k : ℕ) (name : ConstraintName) : Type 0 where
  pub index : ℕ
  pub before : index < k
  pub line : Line
  pub there : slice_get lines index ≡ Some line
  pub how : line.how ≡ Axiom name
  pub counts : name.rule ≢ same_rule
  pub marked : slice_index_or marks index false ≡ true

-- the names are those
pub record ArePicked (lines : List Line) (marks : List Bool) (k : ℕ) (names : List ConstraintName) : Type 0 where
  pub only : (name : ConstraintName) → Contains names name → IsPicked lines marks k name
  pub all : (name : ConstraintName) → IsPicked lines marks k name → Contains names name
