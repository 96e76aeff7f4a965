use Rattle.std.proofs.Common.{◌≡◌, length, reverse}
use Rattle.recursion_groups.specs.Walks.{unbound}
use Rattle.recursion_groups.proofs.walk.unbind.Given as goal

abbrev pub invariant-loop-bound : goal.invariant-loop-bound
invariant-loop-bound l = unbound l.place (reverse l.bounds.items) ≡ unbound l.place (reverse l.initial.bounds.items)

abbrev pub decreases-loop-bound : goal.decreases-loop-bound
decreases-loop-bound l = length l.bounds.items
