use Rattle.std.proofs.Common.{rules, ◌≡◌, ◌+◌, List, ℕ, ◌++◌, ◌∷◌, [], sym, subst}
use Rattle.recursion_groups.specs.Orders.{AreBelow}
use Rattle.recursion_groups.proofs.QueueLemmas.{below_none, below_push}
use Rattle.recursion_groups.proofs.queue.all_below.Goals as goal

pub loop-number-init : goal.loop-number-init
loop-number-init c = subst (λ (us : List ℕ). AreBelow 0 us) (sym c.new-items.ensures.items) below_none

pub loop-number-preserved : goal.loop-number-preserved
loop-number-preserved c =
    let items : c.push.new.self.items ≡ c.loop-number.items.items ++ c.loop-number.number ∷ [] = search rules in
    subst (λ (us : List ℕ). AreBelow (c.loop-number.number + 1) us) (sym items) (below_push c.loop-number.number c.loop-number.items.items c.loop-number.invariant)
