-- Room for the numbers of what propagation found.
use Rattle.std.specs.Prelude.{ℕ, ◌≤◌, List}
use Rattle.std.specs.List.{Contains}
use Rattle.zo_core.specs.Literals.{Literal}
use Rattle.unit_answers.specs.Sets.{UnitSet, set_at, found}
use Rattle.unit_refutation.specs.Numbers.{HasRoom}

-- what was found in a group
abbrev pub found_in : List UnitSet → ℕ → List Literal
found_in sets group = found (set_at sets group)

-- there is room for every literal that was found in the groups up to this one
abbrev pub HasRoomFor : List UnitSet → ℕ → List (List ℕ) → Type 0
HasRoomFor sets last marks = (group : ℕ) (lit : Literal) → group ≤ last → Contains (found_in sets group) lit → HasRoom marks group lit
