use Rattle.std.proofs.Common.{[]}
use Rattle.recursion_groups.specs.Calls.{Gains}
use Rattle.recursion_groups.proofs.CallLemmas.{CalledBefore}
use Rattle.recursion_groups.proofs.calls.callees.Given as goal

abbrev pub invariant-loop-place : goal.invariant-loop-place
invariant-loop-place l = Gains [] l.items.items (CalledBefore l.graph l.proc l.place)
