use Rattle.std.proofs.Common.{drop}
use Rattle.recursion_groups.specs.Orders.{Settles}
use Rattle.recursion_groups.proofs.queue.Queue.settle_all.Given as goal

abbrev pub invariant-loop-at : goal.invariant-loop-at
invariant-loop-at l = Settles l.outs l.firsts l.initial.self l.self (drop l.at l.waiting)
