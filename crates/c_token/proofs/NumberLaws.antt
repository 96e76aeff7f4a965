-- Numbers out of digits.
use Rattle.std.proofs.Common.{◌≡◌, ◌<◌, ◌≤◌, ◌+◌, ◌-◌, ◌*◌, ℕ, Bool, true, false, List, [], ◌∷◌, length, drop, get_or, None, refl, add-one, drop-cons, arith}
use Rattle.std.specs.Prelude.{nat_le}
use Rattle.std.proofs.lemmas.Bool.Decides.{nat_tests}
use Rattle.c_token.specs.Bytes.{value_from, number_of, is_decimal}

-- further digits do not make a number smaller
pub value_from-le : (n : ℕ) (bs : List ℕ) → n ≤ value_from n bs
value_from-le n [] = omega arith
value_from-le n (b ∷ bs) = omega (arith, value_from-le (10 * n + (b - 48)) bs)

le_false : (a b : ℕ) → b < a → nat_le a b ≡ false
le_false a b h = grind (arith, nat_tests)

pub too_large : (run : List ℕ) → 2147483647 < value_from 0 run → number_of run ≡ None
too_large run h = go (is_decimal run) refl
  where
    go : (t : Bool) → is_decimal run ≡ t → number_of run ≡ None
    go true e = rw (e, le_false (value_from 0 run) 2147483647 h) refl
    go false e = rw e refl

-- one more digit
pub value_from-drop : (n i : ℕ) (run : List ℕ) → i < length run → value_from n (drop i run) ≡ value_from (10 * n + (get_or run i 0 - 48)) (drop (i + 1) run)
value_from-drop n i run h = rw (add-one i, drop-cons run i 0 h) refl
