use Rattle.std.proofs.Common.{take}
use Rattle.recursion_groups.specs.Calls.{IsCalled, Gains}
use Rattle.recursion_groups.proofs.calls.add_callees.Given as goal

abbrev pub invariant-loop-edge : goal.invariant-loop-edge
invariant-loop-edge l = Gains l.initial.callees.items l.callees.items (IsCalled l.bodies (take l.edge-index l.edges))
