-- What is among numbers.
use Rattle.std.proofs.Common.{◌≡◌, ℕ, zero, suc, ◌⊎◌, inl, inr, true, false, List, [], ◌∷◌, eqb, sym, ◌∙◌, arith}
use Rattle.std.proofs.lemmas.Bool.{eqb-true, eq-eqb, or_cases, or_left, or_right, false≢true}
use Rattle.std.specs.List.{Contains}
use Rattle.recursion_groups.specs.Found.{has}

pub contains_head : (u q : ℕ) (us : List ℕ) → u ≡ q → Contains (u ∷ us) q
contains_head u q us e = (0, omega arith, e)

pub contains_tail : (u q : ℕ) (us : List ℕ) → Contains us q → Contains (u ∷ us) q
contains_tail u q us h = (suc h.0, omega (arith, h.1), h.2)

pub contains_cases : (u q : ℕ) (us : List ℕ) → Contains (u ∷ us) q → (u ≡ q) ⊎ Contains us q
contains_cases u q us (zero, lt, e) = inl e
contains_cases u q us (suc k, lt, e) = inr (k, omega arith, e)

pub contains_none : (q : ℕ) → Contains [] q → ⊥
contains_none q h = omega (arith, h.1)

pub contains_from_has : (us : List ℕ) (q : ℕ) → has us q ≡ true → Contains us q
contains_from_has [] q h = absurd (false≢true h)
contains_from_has (u ∷ us) q h =
    elim (or_cases (eqb q u) (has us q) h) [ inl e ↦ contains_head u q us (sym (eqb-true q u e)) | inr e ↦ contains_tail u q us (contains_from_has us q e) ]

pub has_from_contains : (us : List ℕ) (q : ℕ) → Contains us q → has us q ≡ true
has_from_contains [] q h = absurd (contains_none q h)
has_from_contains (u ∷ us) q h =
    elim (contains_cases u q us h) [
      | inl e ↦ or_left (eqb q u) (has us q) (eq-eqb q u (sym e))
      | inr e ↦ or_right (eqb q u) (has us q) (has_from_contains us q e)
    ]

pub not_has : (us : List ℕ) (q : ℕ) → has us q ≡ false → Contains us q → ⊥
not_has us q f h = false≢true (sym f ∙ has_from_contains us q h)
