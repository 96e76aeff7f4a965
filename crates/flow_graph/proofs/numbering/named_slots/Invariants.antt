use Rattle.std.proofs.Common.{◌≡◌, ◌++◌, drop}
use Rattle.flow_graph.specs.Numbers.{named_slots}
use Rattle.flow_graph.proofs.numbering.named_slots.Given as goal

abbrev pub invariant-loop-e : goal.invariant-loop-e
invariant-loop-e l = l.slots.items ++ named_slots (drop l.e-index l.edges) ≡ named_slots l.edges
