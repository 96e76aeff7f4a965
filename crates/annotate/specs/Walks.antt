-- A walk in depth along steps, and the order in which it leaves numbers.
use Rattle.std.specs.Prelude.{◌≡◌, ℕ, ◌+◌, ◌*◌, ◌-◌, ◌<◌, ◌≤◌, ◌⊎◌, ⊤, Bool, true, false, List, [], ◌∷◌, length, slice_index_or, slice_set, replicate}
use Rattle.std.specs.List.{Contains}
use Rattle.annotate.specs.Reach.{Steps, Reaches, AreMutual}

-- How far a walk has come

pub record Walked : Type 0 where
  pub seen : List Bool
  -- how many steps from each number were taken
  pub taken : List ℕ
  -- the numbers that were entered and not left, the last one first
  pub path : List ℕ
  -- those that were left, the last one first
  pub done : List ℕ

abbrev pub IsSeen : Walked → ℕ → Type 0
IsSeen s q = slice_index_or s.seen q false ≡ true

abbrev pub list_at : List (List ℕ) → ℕ → List ℕ
list_at lists p = slice_index_or lists p []

abbrev pub taken_at : Walked → ℕ → ℕ
taken_at s p = slice_index_or s.taken p 0

abbrev pub at_first : ℕ → Walked
at_first n = record { seen = replicate n false; taken = replicate n 0; path = []; done = [] }

abbrev pub entered : Walked → ℕ → Walked
entered s q = record { seen = slice_set s.seen q true; taken = s.taken; path = q ∷ s.path; done = s.done }

abbrev pub with_taken : Walked → ℕ → Walked
with_taken s p = record { seen = s.seen; taken = slice_set s.taken p (taken_at s p + 1); path = s.path; done = s.done }

abbrev pub left : Walked → ℕ → List ℕ → Walked
left s p rest = record { seen = s.seen; taken = s.taken; path = rest; done = p ∷ s.done }

-- p was entered last of those that were not left
abbrev pub IsLast : Walked → ℕ → Type 0
IsLast s p = (rest : List ℕ) × (s.path ≡ p ∷ rest)

-- The order in which numbers are left

-- r reaches u, or one of these and u reach one another
abbrev pub IsBound : List (List ℕ) → List ℕ → ℕ → ℕ → Type 0
IsBound lists later u r = Reaches lists r u ⊎ ((w : ℕ) × Contains later w × AreMutual lists w u)

-- what reaches one of them is bound to it or to those that were left later
abbrev pub IsOrder : List (List ℕ) → (ℕ → Type 0) → List ℕ → List ℕ → Type 0
IsOrder lists P later [] = ⊤
IsOrder lists P later (r ∷ rs) = ((u : ℕ) → P u → Reaches lists u r → IsBound lists later u r) × IsOrder lists P (r ∷ later) rs

-- all numbers, in such an order
pub record IsWholeOrder (lists : List (List ℕ)) (order : List ℕ) : Type 0 where
  pub ordered : IsOrder lists (λ u. u < length lists) [] order
  pub all : (q : ℕ) → q < length lists → Contains order q
  pub within : (q : ℕ) → Contains order q → q < length lists

-- What holds at each point of a walk

-- each number of the path reaches those that were entered later, and stands in it once
abbrev pub IsPath : List (List ℕ) → List ℕ → Type 0
IsPath lists [] = ⊤
IsPath lists (v ∷ vs) = ((p : ℕ) → Contains vs p → Reaches lists p v × (p ≡ v → ⊥)) × IsPath lists vs

pub record IsWalk (lists : List (List ℕ)) (s : Walked) : Type 0 where
  pub seen_count : length s.seen ≡ length lists
  pub taken_count : length s.taken ≡ length lists
  pub path_seen : (q : ℕ) → Contains s.path q → IsSeen s q
  pub done_seen : (q : ℕ) → Contains s.done q → IsSeen s q
  pub seen_is : (q : ℕ) → IsSeen s q → Contains s.path q ⊎ Contains s.done q
  pub path : IsPath lists s.path
  pub apart : (q : ℕ) → Contains s.path q → Contains s.done q → ⊥
  pub bounded : (p : ℕ) → taken_at s p ≤ length (list_at lists p)
  pub followed : (p k : ℕ) → k < taken_at s p → IsSeen s (slice_index_or (list_at lists p) k 0)
  pub closed : (p q : ℕ) → Contains s.done p → Steps lists p q → IsSeen s q
  -- what was left and reaches a number that was not is in a ring with one of the path that reaches it
  pub guarded : (u r : ℕ) → Contains s.done u → (Contains s.done r → ⊥) → Reaches lists u r → (p : ℕ) × Contains s.path p × AreMutual lists p u × Reaches lists p r
  pub order : IsOrder lists (IsSeen s) s.path s.done

-- How much is left to do

abbrev pub steps_left : List (List ℕ) → List ℕ → ℕ
steps_left [] ts = 0
steps_left (l ∷ ls) [] = 0
steps_left (l ∷ ls) (t ∷ ts) = length l - t + steps_left ls ts

abbrev pub work : List (List ℕ) → Walked → ℕ
work lists s = 2 * steps_left lists s.taken + length s.path

-- a part of a walk
pub record GoesOn (lists : List (List ℕ)) (old new : Walked) : Type 0 where
  pub walk : IsWalk lists new
  pub seen : (q : ℕ) → IsSeen old q → IsSeen new q

pub record Advances (lists : List (List ℕ)) (old new : Walked) : Type 0 where
  pub on : GoesOn lists old new
  pub less : work lists new < work lists old
