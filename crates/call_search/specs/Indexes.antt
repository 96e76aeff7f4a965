-- Lines that are kept, the words that are left, and where the lines of each group stand.
use Rattle.std.specs.Prelude.{◌≡◌, ◌≢◌, ℕ, suc, ◌<◌, ◌≤◌, List, [], ◌∷◌, ◌++◌, Some, slice_get, slice_index_or}
use Rattle.conflict_proof.specs.declared.derivation.Line.{Line}

pub record Ledger : Type 0 where
  pub lines : List Line
  pub words : ℕ

-- none of the lines from one place up to another is of the group
abbrev pub NoneBetween : List Line → ℕ → ℕ → ℕ → Type 0
NoneBetween lines g from to = (n : ℕ) (x : Line) → from ≤ n → n < to → slice_get lines n ≡ Some x → x.group ≡ g → ⊥

-- none from this place on is
abbrev pub NoneFrom : List Line → ℕ → ℕ → Type 0
NoneFrom lines g from = (n : ℕ) (x : Line) → from ≤ n → slice_get lines n ≡ Some x → x.group ≡ g → ⊥

-- a line of the group stands at this place
pub record IsPlace (lines : List Line) (g p : ℕ) : Type 0 where
  pub line : Line
  pub there : slice_get lines p ≡ Some line
  pub group : line.group ≡ g

-- these are the places from one on at which lines of the group stand, ascending
abbrev pub ArePlaces : List Line → ℕ → ℕ → List ℕ → Type 0
ArePlaces lines g from [] = NoneFrom lines g from
ArePlaces lines g from (p ∷ ps) = (from ≤ p) × NoneBetween lines g from p × IsPlace lines g p × ArePlaces lines g (suc p) ps

-- the lists have the places of each group's lines
abbrev pub AreIndexed : List Line → List (List ℕ) → Type 0
AreIndexed lines groups = (g : ℕ) → ArePlaces lines g 0 (slice_index_or groups g [])

-- each group has the same places
abbrev pub AreSame : List (List ℕ) → List (List ℕ) → Type 0
AreSame old new = (g : ℕ) → slice_index_or new g [] ≡ slice_index_or old g []

-- a group has one place more, behind the others
pub record IsPlaced (g p : ℕ) (old new : List (List ℕ)) : Type 0 where
  pub own : slice_index_or new g [] ≡ slice_index_or old g [] ++ p ∷ []
  pub others : (h : ℕ) → h ≢ g → slice_index_or new h [] ≡ slice_index_or old h []
