use Rattle.recursion_groups.specs.Walks.{IsWalk, KeepsMet, work}
use Rattle.recursion_groups.proofs.walk.Walk.finish.Given as goal

abbrev pub invariant-loop-bound : goal.invariant-loop-bound
invariant-loop-bound l = IsWalk l.calls l.self × KeepsMet l.initial.self l.self

abbrev pub decreases-loop-bound : goal.decreases-loop-bound
decreases-loop-bound l = work l.calls l.self
