use Rattle.std.proofs.Common.{◌≡◌, ◌++◌, drop}
use Rattle.flow_graph.specs.Numbers.{slot_keys}
use Rattle.flow_graph.proofs.numbering.temp_keys.Given as goal

abbrev pub invariant-loop-x : goal.invariant-loop-x
invariant-loop-x l = l.keys.items ++ slot_keys l.types (drop l.x-index l.x-items) ≡ slot_keys l.types l.x-items
