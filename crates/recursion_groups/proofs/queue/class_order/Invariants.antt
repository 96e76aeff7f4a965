use Rattle.std.proofs.Common.{length}
use Rattle.recursion_groups.specs.Walks.{total}
use Rattle.recursion_groups.specs.Orders.{is_placed}
use Rattle.recursion_groups.proofs.QueueLemmas.{IsSoFar, open_count}
use Rattle.recursion_groups.proofs.queue.class_order.Given as goal

abbrev pub invariant-loop-first : goal.invariant-loop-first
invariant-loop-first l = IsSoFar l.outs l.firsts l.queue l.order.items

abbrev pub decreases-loop-first : goal.decreases-loop-first
decreases-loop-first l = total (λ k. open_count (is_placed l.queue k)) (length l.outs)
