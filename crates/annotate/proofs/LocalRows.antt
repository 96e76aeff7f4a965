-- Tests of places.
use Rattle.std.proofs.Common.{◌≡◌, ℕ, zero, suc, ◌<◌, ◌⊎◌, inl, inr, Bool, true, false, ◌||◌, refl, subst, ap, ◌∙◌, arith}
use Rattle.std.proofs.lemmas.Bool.{cases_lt}
use Rattle.annotate.specs.Locals.{any_below}

or_true : (a : Bool) → (a || true) ≡ true
or_true true = refl
or_true false = refl

or_left : (a b : Bool) → a ≡ true → (a || b) ≡ true
or_left a b e = ap (λ v. v || b) e

-- where the test holds at some place, it holds at one of all
pub any_found : (n k : ℕ) (test : ℕ → Bool) → k < n → test k ≡ true → any_below n test ≡ true
any_found zero k test lt e = absurd (omega arith)
any_found (suc n) k test lt e = elim (cases_lt k n) [
  | inl below ↦ or_left (any_below n test) (test n) (any_found n k test below e)
  | inr above ↦
      let same : k ≡ n = omega arith in
      ap (λ v. any_below n test || v) (subst (λ m. test m ≡ true) same e) ∙ or_true (any_below n test)
]
