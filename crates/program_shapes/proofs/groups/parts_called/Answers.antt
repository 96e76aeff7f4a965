use Rattle.std.proofs.Common.{◌∙◌, ap, arith}
use Rattle.std.specs.Prelude.{sum_by}
use Rattle.std.proofs.lemmas.List.{take_all}
use Rattle.program_shapes.specs.Tables.{parts_there}
use Rattle.program_shapes.proofs.Sums.{no_call, sum_next}
use Rattle.program_shapes.proofs.groups.parts_called.Goals as goal

pub loop-call-preserved : goal.loop-call-preserved
loop-call-preserved c =
    let next = sum_next c.loop-call.call-index c.args.calls.now no_call c.loop-call-test.true in
    let was = c.loop-call.invariant in
    let more = c.in_ok-parts.ensures in
    omega arith

pub returns : goal.returns
returns c = c.loop-call.invariant ∙ ap (sum_by parts_there) (take_all c.loop-call.call-index c.args.calls.now c.loop-call-test.false)
