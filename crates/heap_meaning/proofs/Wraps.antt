-- Wrapping to eight bits by a remainder.
use Rattle.std.proofs.Common.{◌≡◌, ℕ, suc, Bool, false, ltb, ◌-◌, ◌<◌, ◌≤◌, ◌∙◌, sym, ap, arith, ℤ, pos, negsuc, ◌-ℤ◌, ◌≤ℤ◌, ◌<ℤ◌, to_z}
use Rattle.std.proofs.lemmas.Bool.{ltb-true}
use Rattle.std.proofs.lemmas.Int.{ints}
use mir.Val.{sel}
use Rattle.std.specs.Int.{w8, int_wrap, int_rem_euclid}
use Rattle.std.specs.Prelude.{unsigned_abs}
use Rattle.heap_meaning.proofs.Lists.{by_bool}

wrap_is : (z : ℤ) (n : ℕ) → pos n ≡ int_rem_euclid z (pos 256) → to_z w8 n ≡ int_wrap w8 z
unfolding int_wrap
wrap_is z n is = ap (λ (r : ℤ). to_z w8 (unsigned_abs r)) is

pub wrap_low : (z r : ℤ) → r ≡ int_rem_euclid z (pos 256) → pos 0 ≤ℤ r → r <ℤ pos 128 → r ≡ int_wrap w8 z
wrap_low z (pos n) is low high = let e : pos n ≡ to_z w8 n = omega (arith, ints) in e ∙ wrap_is z n is
wrap_low z (negsuc n) is low high = absurd (omega (arith, ints))

pub wrap_high : (z r : ℤ) → r ≡ int_rem_euclid z (pos 256) → pos 128 ≤ℤ r → r <ℤ pos 256 → r -ℤ pos 256 ≡ int_wrap w8 z
wrap_high z (pos n) is low high =
    let at_least : 128 ≤ n = omega (arith, ints) in
    let below : n < 256 = omega (arith, ints) in
    above n at_least below ∙ wrap_is z n is
  where
    above : (n : ℕ) → 128 ≤ n → n < 256 → pos n -ℤ pos 256 ≡ to_z w8 n
    above n le lt =
        let left : pos n -ℤ pos 256 ≡ negsuc (255 - n) = omega (arith, ints) in
        let past : ltb n 128 ≡ false = by_bool (ltb n 128) (λ e. let lt = ltb-true n 128 e in absurd (omega arith)) (λ e. e) in
        let same : 256 - suc n ≡ 255 - n = omega arith in
        let right : to_z w8 n ≡ negsuc (255 - n) = ap (λ (b : Bool). sel b (pos n) (negsuc (256 - suc n))) past ∙ ap negsuc same in
        left ∙ sym right
wrap_high z (negsuc n) is low high = absurd (omega (arith, ints))
