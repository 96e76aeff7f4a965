-- Lines that are marked, and those on which the last line stands.
use Rattle.std.specs.Prelude.{◌≡◌, ℕ, zero, suc, ◌<◌, ◌≤◌, ⊤, Bool, true, false, cond, nat_eq, List, Some, length, slice_set, slice_index_or}
use Rattle.conflict_proof.specs.declared.names.ConstraintName.{ConstraintName}
use Rattle.conflict_proof.specs.declared.derivation.How.{How}
use Rattle.conflict_proof.specs.declared.derivation.How.TheVariants.{Axiom, Resolve, Inst}
use Rattle.conflict_proof.specs.declared.derivation.Line.{Line}
use Rattle.conflict_proof.specs.Names.{name_order}
use Rattle.std.specs.BTreeSet.{insert_key}
use Rattle.verdict_meaning.specs.Solutions.{same_rule}
use Rattle.verdict_meaning.specs.Derivations.{line_at}
use Rattle.verdict_meaning.specs.UsedNames.{StandsOn}

-- a line of this origin names lines before the number n alone
abbrev pub IsBefore : How → ℕ → Type 0
IsBefore (Axiom name) n = ⊤
IsBefore (Resolve i j) n = (i < n) × (j < n)
IsBefore (Inst i site) n = i < n

-- each line names earlier lines alone, as those of a valid derivation do
abbrev pub LeadBack : List Line → Type 0
LeadBack lines = (n : ℕ) (line : Line) → line_at lines n ≡ Some line → IsBefore line.how n

-- the mark of a line; lines are numbered from 1
abbrev pub is_marked : List Bool → ℕ → Bool
is_marked marks zero = false
is_marked marks (suc n) = slice_index_or marks n false

-- the marks with one more
abbrev pub with_mark : List Bool → ℕ → List Bool
with_mark marks zero = marks
with_mark marks (suc n) = slice_set marks n true

-- with those of the lines that a line of this origin names
abbrev pub with_premises : List Bool → How → List Bool
with_premises marks (Axiom name) = marks
with_premises marks (Resolve i j) = with_mark (with_mark marks i) j
with_premises marks (Inst i site) = with_mark marks i

-- the last line stands on exactly the marked lines
pub record AreNeeded (lines : List Line) (marks : List Bool) : Type 0 where
  pub count : length marks ≡ length lines
  pub only : (m : ℕ) → is_marked marks m ≡ true → StandsOn lines (length lines) m
  pub all : (m : ℕ) → 0 < m → m ≤ length lines → StandsOn lines (length lines) m → is_marked marks m ≡ true

-- names in order, with that of a constraint that is not always in force
abbrev pub with_name : List ConstraintName → How → List ConstraintName
with_name names (Axiom name) = cond (nat_eq name.rule same_rule) names (insert_key name_order names name)
with_name names (Resolve i j) = names
with_name names (Inst i site) = names
