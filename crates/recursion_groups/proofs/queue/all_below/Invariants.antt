use Rattle.recursion_groups.specs.Orders.{AreBelow}
use Rattle.recursion_groups.proofs.queue.all_below.Given as goal

abbrev pub invariant-loop-number : goal.invariant-loop-number
invariant-loop-number l = AreBelow l.number l.items.items
