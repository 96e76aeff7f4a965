use Rattle.annotate.specs.Walks.{GoesOn, work}
use Rattle.annotate.proofs.walk.finish.Given as goal

abbrev pub invariant-loop-from : goal.invariant-loop-from
invariant-loop-from l = GoesOn l.lists l.initial.walk l.walk

abbrev pub decreases-loop-from : goal.decreases-loop-from
decreases-loop-from l = work l.lists l.walk
