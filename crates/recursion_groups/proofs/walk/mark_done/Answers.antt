use Rattle.std.proofs.Common.{arith}
use Rattle.recursion_groups.proofs.WalkLemmas.{marked_more}
use Rattle.recursion_groups.proofs.walk.mark_done.Goals as goal

pub loop-proc-preserved : goal.loop-proc-preserved
loop-proc-preserved c =
    marked_more c.args.members.now c.args.class c.args.marks.now c.loop-proc.marks c.loop-proc.proc-index c.loop-proc.invariant (omega arith)
    (omega (arith, c.requires c.loop-proc.proc-index 0 (omega arith), c.loop-proc.auto.marks))
