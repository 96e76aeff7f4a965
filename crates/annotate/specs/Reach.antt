-- What lists of steps lead to: list p has the numbers to which a step leads from p.
use Rattle.std.specs.Prelude.{◌≡◌, ℕ, ◌<◌, List, [], ◌∷◌, length, slice_index_or}
use Rattle.std.specs.List.{Contains}

abbrev pub Steps : List (List ℕ) → ℕ → ℕ → Type 0
Steps lists p q = Contains (slice_index_or lists p []) q

-- a step leads from p to the first of these, one from each to the next, and the last is q; none where p is q
abbrev pub StepsAlong : List (List ℕ) → ℕ → List ℕ → ℕ → Type 0
StepsAlong lists p [] q = p ≡ q
StepsAlong lists p (r ∷ rs) q = Steps lists p r × StepsAlong lists r rs q

abbrev pub Reaches : List (List ℕ) → ℕ → ℕ → Type 0
Reaches lists p q = (through : List ℕ) × StepsAlong lists p through q

-- each reaches the other
abbrev pub AreMutual : List (List ℕ) → ℕ → ℕ → Type 0
AreMutual lists p q = Reaches lists p q × Reaches lists q p

-- steps lead to numbers that have a list
abbrev pub AreWithin : List (List ℕ) → Type 0
AreWithin lists = (p q : ℕ) → Steps lists p q → q < length lists
