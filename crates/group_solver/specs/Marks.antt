-- Marks for the lines of a solver, which are numbered from 1.
use Rattle.std.specs.Prelude.{◌≡◌, ℕ, suc, ◌<◌, ◌≤◌, Bool, true, List, length, Some, slice_get}
use Rattle.zo_solver.specs.Clauses.{numbered}
use Rattle.zo_solver.specs.declared.answers.Origin.{Origin}
use Rattle.zo_solver.specs.declared.answers.Origin.TheVariants.{Given, Lemma, Resolved}

abbrev pub IsMarked : List Bool → ℕ → Type 0
IsMarked marks n = numbered marks n ≡ Some true

-- a line is a resolvent of lines with a number below this one
abbrev pub PremisesAreBelow : ℕ → Origin → Type 0
PremisesAreBelow n (Given k) = Unit {0}
PremisesAreBelow n Lemma = Unit {0}
PremisesAreBelow n (Resolved a b) = (0 < a) × (a < n) × (0 < b) × (b < n)

-- the two lines of which it is a resolvent are marked
abbrev pub PremisesAreMarked : List Bool → Origin → Type 0
PremisesAreMarked marks (Given k) = Unit {0}
PremisesAreMarked marks Lemma = Unit {0}
PremisesAreMarked marks (Resolved a b) = IsMarked marks a × IsMarked marks b

-- of the lines after so many first ones each marked one has its premises marked
abbrev pub IsClosedFrom : ℕ → List Origin → List Bool → Type 0
IsClosedFrom first origins marks =
    (k : ℕ) (o : Origin) → first ≤ k → slice_get marks k ≡ Some true → slice_get origins k ≡ Some o → PremisesAreBelow (suc k) o → PremisesAreMarked marks o

-- the premises were marked, and nothing else changed
pub record Marks (o : Origin) (old new : List Bool) : Type 0 where
  pub size : length new ≡ length old
  pub premises : PremisesAreMarked new o
  pub kept : (k : ℕ) → slice_get old k ≡ Some true → slice_get new k ≡ Some true
  pub others : (n k : ℕ) → PremisesAreBelow n o → n ≤ suc k → slice_get new k ≡ slice_get old k

-- all are marked
abbrev pub AreAll : List Bool → Type 0
AreAll marks = (k : ℕ) (b : Bool) → slice_get marks k ≡ Some b → b ≡ true
