use Rattle.std.proofs.Common.{◌<◌, ◌≤◌, length, sym, ◌∙◌, arith}
use Rattle.verdict_meaning.specs.Certificates.{bit_at}
use Rattle.plain_answers.proofs.Assigned.{row_unmet, rows_more, rows_all}
use Rattle.plain_answers.proofs.assigning.are_met.Goals as goal

pub returns-then-not-is_true : goal.returns-then-not-is_true
returns-then-not-is_true c =
    let below : c.loop-number.number < length c.args.table.now = (let t = c.loop-number-test.true in let e = c.len-number-end.ensures in omega arith) in
    row_unmet (bit_at c.args.bits.now) c.args.table.now c.loop-number.number c.lits.result.now below c.lits.ensures (sym c.is_true.ensures ∙ c.if-not-is_true.true)

pub loop-number-preserved : goal.loop-number-preserved
loop-number-preserved c =
    let below : c.loop-number.number < length c.args.table.now = (let t = c.loop-number-test.true in let e = c.len-number-end.ensures in omega arith) in
    rows_more (bit_at c.args.bits.now) c.args.table.now c.loop-number.number c.lits.result.now below c.lits.ensures (sym c.is_true.ensures ∙ c.if-not-is_true.false) c.loop-number.invariant

pub returns : goal.returns
returns c =
    let past : length c.args.table.now ≤ c.loop-number.number = (let t = c.loop-number-test.false in let e = c.len-number-end.ensures in omega arith) in
    rows_all (bit_at c.args.bits.now) c.args.table.now c.loop-number.number past c.loop-number.invariant
