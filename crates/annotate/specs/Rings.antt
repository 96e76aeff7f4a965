-- Marks that tell which numbers reach one another.
use Rattle.std.specs.Prelude.{◌≡◌, ℕ, ◌<◌, ◌⊎◌, ◌↔◌, List, length, slice_index_or}
use Rattle.std.specs.List.{Contains}
use Rattle.annotate.specs.Reach.{Steps, AreMutual}

abbrev pub mark_at : List ℕ → ℕ → ℕ
mark_at marks q = slice_index_or marks q 0

-- two numbers have one mark exactly where each reaches the other
pub record AreRings (lists : List (List ℕ)) (marks : List ℕ) : Type 0 where
  pub count : length marks ≡ length lists
  pub each : (p q : ℕ) → p < length lists → q < length lists → (mark_at marks p ≡ mark_at marks q) ↔ AreMutual lists p q

-- the lists have the same steps backwards
pub record AreBackwards (lists back : List (List ℕ)) : Type 0 where
  pub count : length back ≡ length lists
  pub each : (p q : ℕ) → Steps back q p ↔ Steps lists p q

-- the lists with one more number in those of these numbers
pub record AddsBack (old : List (List ℕ)) (qs : List ℕ) (from : ℕ) (new : List (List ℕ)) : Type 0 where
  pub count : length new ≡ length old
  pub each : (q s : ℕ) → Steps new q s ↔ (Steps old q s ⊎ ((from ≡ s) × Contains qs q))
