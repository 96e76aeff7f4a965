-- Where a set holds an unknown in both signs.
use Rattle.std.specs.Prelude.{◌≡◌, ℕ, ◌<◌, List, length, take, Some, slice_get}
use Rattle.std.specs.List.{Contains}
use Rattle.zo_core.specs.Literals.{Literal, opposite}
use Rattle.unit_answers.specs.declared.clash.Contradiction.{Contradiction}
use Rattle.unit_answers.specs.Sets.{UnitSet, set_at, found}

-- no unknown is there in both signs
abbrev pub AreConsistent : List Literal → Type 0
AreConsistent ls = (l : Literal) → Contains ls l → Contains ls (opposite l) → ⊥

-- the literal at place p is the first whose opposite stands before it
pub record IsFirstClash (ls : List Literal) (p : ℕ) : Type 0 where
  pub lit : Literal
  pub at : slice_get ls p ≡ Some lit
  pub before : Contains (take p ls) (opposite lit)
  pub consistent : AreConsistent (take p ls)

-- the first set that has both signs of an unknown, and where the later literal of the first such pair was found
pub record IsFirstContradiction (sets : List UnitSet) (c : Contradiction) : Type 0 where
  pub within : c.group < length sets
  pub clash : IsFirstClash (found (set_at sets c.group)) c.place
  pub lower : (g : ℕ) → g < c.group → AreConsistent (found (set_at sets g))

-- no set has both signs of an unknown
abbrev pub HasNoContradiction : List UnitSet → Type 0
HasNoContradiction sets = (g : ℕ) → g < length sets → AreConsistent (found (set_at sets g))
