use Rattle.std.proofs.Common.{◌≡◌, ◌≤◌, length, arith, rules, sym}
use Rattle.own_cert.proofs.RoomLemmas.{bits_taken, no_bits_left}
use Rattle.own_cert.proofs.runs.room_after_rows.Goals as goal

pub returns-in_err-bits : goal.returns-in_err-bits
returns-in_err-bits c =
    let l = c.loop-row in
    let row = c.row-item.result in
    let count : c.len.result ≡ length row.bits = search rules in
    rw c.from_residual.ensures (sym (no_bits_left c.args.room c.args.rows.now l.row-index l.bits row c.loop-row-test.true c.row-item.is l.invariant (λ (low : length row.bits ≤ l.bits). c.in_err-bits.ensures (omega (arith, low, count)))))

pub loop-row-preserved : goal.loop-row-preserved
loop-row-preserved c =
    let l = c.loop-row in
    let row = c.row-item.result in
    let count : c.len.result ≡ length row.bits = search rules in
    let more = bits_taken c.args.rows.now l.row-index row c.loop-row-test.true c.row-item.is in
    omega (arith, more, count, l.invariant, c.in_ok-bits.ensures.0, c.in_ok-bits.ensures.1)
