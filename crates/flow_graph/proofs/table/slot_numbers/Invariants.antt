use Rattle.std.proofs.Common.{◌≡◌, ◌++◌, drop, map}
use Rattle.flow_graph.specs.Numbers.{slot_number}
use Rattle.flow_graph.proofs.table.slot_numbers.Given as goal

abbrev pub invariant-loop-x : goal.invariant-loop-x
invariant-loop-x l = l.items.items ++ map (slot_number l.ns) (drop l.x-index l.slots) ≡ map (slot_number l.ns) l.slots
