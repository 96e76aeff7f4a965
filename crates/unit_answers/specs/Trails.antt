-- Literals in the order in which they are found.
use Rattle.std.specs.Prelude.{◌≡◌, ℕ, ◌+◌, ◌*◌, ◌<◌, ◌≤◌, ◌^◌, Bool, true, false, List, [], ◌∷◌, ◌++◌, length, map, slice_index_or, slice_get, Some}
use Rattle.std.specs.List.{All, Contains, count_by}
use Rattle.std.specs.List.Sorted.{IsStrictlyIncreasing}
use Rattle.zo_core.specs.Literals.{Literal}
use Rattle.unit_answers.specs.declared.findings.Reason.{Reason}
use Rattle.unit_answers.specs.declared.findings.Finding.{Finding}
use Rattle.unit_answers.specs.Sets.{lit_of, rank}

-- what was found of the unknowns up to a number
pub record Trail : Type 0 where
  pub unknowns : ℕ
  pub findings : List Finding

abbrev pub known : Trail → List Literal
known t = map lit_of t.findings

abbrev pub mark_of : List Bool → Literal → Bool
mark_of marks l = slice_index_or marks (rank l) false

-- by rank, whether a literal is among these, which are of unknowns up to a number, each once
pub record AreMarks (unknowns : ℕ) (marks : List Bool) (order : List Literal) : Type 0 where
  pub small : unknowns < 2 ^ 31
  pub size : length marks ≡ 2 * unknowns + 2
  pub within : All (λ (l : Literal). (0 < l.var) × (l.var ≤ unknowns)) order
  pub count : length order ≡ count_by (λ (b : Bool). b) marks
  pub there : (l : Literal) → mark_of marks l ≡ true → Contains order l
  pub each : (l : Literal) → Contains order l → mark_of marks l ≡ true
  pub once : (j k : ℕ) (l : Literal) → slice_get order j ≡ Some l → slice_get order k ≡ Some l → j ≡ k

abbrev pub IsTrail : ℕ → List Bool → List Finding → Type 0
IsTrail unknowns marks findings = AreMarks unknowns marks (map lit_of findings)

-- the literal was added at the end, or it was there
abbrev pub Adds : Literal → Reason → Trail → Trail → Bool → Type 0
Adds l why old new true =
    (Contains (known old) l → ⊥) × (new.unknowns ≡ old.unknowns) × (new.findings ≡ old.findings ++ record { lit = l; reason = why } ∷ []) × (length new.findings ≤ 2 * new.unknowns + 2)
Adds l why old new false = Contains (known old) l × (new ≡ old)

-- there are more than before, and no more than there can be
pub record Rises (old new : Trail) : Type 0 where
  pub more : length old.findings < length new.findings
  pub few : length new.findings ≤ 2 * new.unknowns + 2

-- in ascending order, the literals that are marked of those whose ranks are from 2 on and below a number
pub record AreMarkedBelow (marks : List Bool) (most : ℕ) (lits : List Literal) : Type 0 where
  pub ascend : IsStrictlyIncreasing (map rank lits)
  pub there : (l : Literal) → Contains lits l → (rank l < most) × (mark_of marks l ≡ true)
  pub all : (l : Literal) → 2 ≤ rank l → rank l < most → mark_of marks l ≡ true → Contains lits l
