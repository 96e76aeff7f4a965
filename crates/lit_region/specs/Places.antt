-- Where the clauses of a region lie.
use Rattle.std.specs.Prelude.{◌≡◌, ℕ, ◌+◌, ◌<◌, ◌≤◌, List, [], ◌∷◌, take, drop, length, ◌^◌}
use Rattle.zo_core.specs.Literals.{Literal}
use Rattle.lit_region.specs.declared.region.Place.{Place}

-- the literals at a place
abbrev pub literals_in : List Literal → Place → List Literal
literals_in lits p = take p.len (drop p.start lits)

-- the clauses at these places
abbrev pub clauses_in : List Literal → List Place → List (List Literal)
clauses_in lits [] = []
clauses_in lits (p ∷ ps) = literals_in lits p ∷ clauses_in lits ps

-- the places follow one another from `start` to `end`, none of them empty
abbrev pub AreLaidOut : ℕ → List Place → ℕ → Type 0
AreLaidOut start [] end = start ≡ end
AreLaidOut start (p ∷ ps) end = (p.start ≡ start) × (0 < p.len) × AreLaidOut (start + p.len) ps end

-- what holds of the parts of a region: the literals in use with their number and the room for them, the places of
-- the clauses likewise, and the size
pub record AreParts (lits : List Literal) (lits_len lits_room : ℕ) (places : List Place) (places_len places_room size : ℕ) : Type 0 where
  pub laid : AreLaidOut 0 places lits_len
  pub lits_count : lits_len ≡ length lits
  pub places_count : places_len ≡ length places
  pub within : lits_len ≤ size
  pub small : size < 2 ^ 32
  pub lits_fit : size ≤ lits_room
  pub places_fit : size ≤ places_room
