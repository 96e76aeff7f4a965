use Rattle.std.proofs.Common.{◌≡◌, drop, reverse}
use Rattle.recursion_groups.specs.Walks.{added}
use Rattle.recursion_groups.proofs.walk.add_calls.Given as goal

abbrev pub invariant-loop-to : goal.invariant-loop-to
invariant-loop-to l = added l.place (drop l.to-index l.calls) (reverse l.pending.items) ≡ added l.place l.calls (reverse l.initial.pending.items)
