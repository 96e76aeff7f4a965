use Rattle.std.proofs.Common.{◌≡◌, pos, ◌-ℤ◌, arith, to_z, of_z, w32, ◌∙◌}
use Rattle.std.proofs.lemmas.Int.{ints, to_z-of_z}
use Rattle.std.specs.Int.{int_rem_euclid}
use Rattle.heap_meaning.proofs.Wraps.{wrap_low, wrap_high}
use Rattle.heap_meaning.proofs.numbers.wrapped.Goals as goal

pub returns-then-bits-lt128 : goal.returns-then-bits-lt128
returns-then-bits-lt128 c =
    let r = c.rem_euclid-bits.result in
    let e : r ≡ int_rem_euclid c.args.number (pos 256) = grind (arith, to_z-of_z) in
    let same : to_z w32 (of_z w32 r) ≡ r = omega (arith, ints) in
    same ∙ wrap_low c.args.number r e (omega (arith, ints)) (omega (arith, ints))

pub returns-else-bits-lt128 : goal.returns-else-bits-lt128
returns-else-bits-lt128 c =
    let r = c.rem_euclid-bits.result in
    let e : r ≡ int_rem_euclid c.args.number (pos 256) = grind (arith, to_z-of_z) in
    let same : to_z w32 (of_z w32 (to_z w32 (of_z w32 r) -ℤ pos 256)) ≡ r -ℤ pos 256 = omega (arith, ints) in
    same ∙ wrap_high c.args.number r e (omega (arith, ints)) (omega (arith, ints))
