use Rattle.std.proofs.Common.{◌+◌, ◌*◌, ◌-◌, ◌<◌, get_or, drop, refl, arith}
use Rattle.c_token.specs.Bytes.{value_from}
use Rattle.c_token.proofs.NumberLaws.{too_large, value_from-le, value_from-drop}
use Rattle.c_token.proofs.forms.number.Goals as goal

pub returns-then-value-gt2147483647 : goal.returns-then-value-gt2147483647
returns-then-value-gt2147483647 c =
    let run = c.args.run.now in
    let i = c.loop-b.b-index in
    let more = value_from-drop c.loop-b.value i run (omega arith) in
    let low = value_from-le (10 * c.loop-b.value + (get_or run i 0 - 48)) (drop (i + 1) run) in
    let large : 2147483647 < value_from 0 run = omega arith in
    rw (too_large run large) refl
