-- Marks that spread along steps.
use Rattle.std.specs.Prelude.{◌≡◌, ℕ, suc, ◌+◌, ◌<◌, ◌⊎◌, Bool, cond, nat_eq, List, [], ◌∷◌, ◌++◌, length, slice_set}
use Rattle.std.specs.List.{Contains}
use Rattle.annotate.specs.Reach.{Steps, Reaches}
use Rattle.annotate.specs.Rings.{mark_at}

-- the mark 0 is none
abbrev pub IsMarked : List ℕ → ℕ → Type 0
IsMarked ms q = mark_at ms q ≡ 0 → ⊥

-- how many have none
abbrev pub unmarked : List ℕ → ℕ
unmarked [] = 0
unmarked (m ∷ ms) = cond (nat_eq m 0) 1 0 + unmarked ms

-- the marks, and the numbers that got one, where a number that had none has this one
abbrev pub marks_with : List ℕ → ℕ → ℕ → List ℕ
marks_with ms q mark = cond (nat_eq (mark_at ms q) 0) (slice_set ms q mark) ms

abbrev pub numbers_with : List ℕ → List ℕ → ℕ → List ℕ
numbers_with ms rs q = cond (nat_eq (mark_at ms q) 0) (rs ++ q ∷ []) rs

-- the numbers of which P holds are marked, with this mark where they were not, and those that were not are added to the list
pub record Marks (ms rs : List ℕ) (mark : ℕ) (P : ℕ → Type 0) (ms' rs' : List ℕ) : Type 0 where
  pub count : length ms' ≡ length ms
  pub kept : (q : ℕ) → IsMarked ms q → mark_at ms' q ≡ mark_at ms q
  pub fresh : (q : ℕ) → mark_at ms q ≡ 0 → IsMarked ms' q → (mark_at ms' q ≡ mark) × Contains rs' q
  pub more : List ℕ
  pub front : rs' ≡ rs ++ more
  pub only : (q : ℕ) → Contains rs' q → Contains rs q ⊎ P q
  pub all : (q : ℕ) → P q → IsMarked ms' q
  pub sum : unmarked ms' + length rs' ≡ unmarked ms + length rs

-- to what steps lead from a marked number is marked
abbrev pub AreClosed : List (List ℕ) → List ℕ → Type 0
AreClosed lists ms = (q p : ℕ) → IsMarked ms q → Steps lists q p → IsMarked ms p

-- all that the root reaches is marked, with the mark of the root where it was not
pub record Paints (lists : List (List ℕ)) (ms : List ℕ) (root : ℕ) (ms' : List ℕ) : Type 0 where
  pub count : length ms' ≡ length ms
  pub kept : (q : ℕ) → IsMarked ms q → mark_at ms' q ≡ mark_at ms q
  pub fresh : (q : ℕ) → mark_at ms q ≡ 0 → IsMarked ms' q → (mark_at ms' q ≡ suc root) × Reaches lists root q
  pub closed : AreClosed lists ms'
  pub start : IsMarked ms' root
