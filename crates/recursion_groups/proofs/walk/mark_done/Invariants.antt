use Rattle.std.proofs.Common.{take}
use Rattle.recursion_groups.specs.Walks.{AreMarked}
use Rattle.recursion_groups.proofs.walk.mark_done.Given as goal

abbrev pub invariant-loop-proc : goal.invariant-loop-proc
invariant-loop-proc l = AreMarked (take l.proc-index l.members) l.class l.initial.marks l.marks
