use Rattle.annotate.proofs.BackRows.{AreBackTo}
use Rattle.annotate.proofs.backwards.backwards.Given as goal

abbrev pub invariant-loop-from : goal.invariant-loop-from
invariant-loop-from l = AreBackTo l.lists l.from l.back.items
