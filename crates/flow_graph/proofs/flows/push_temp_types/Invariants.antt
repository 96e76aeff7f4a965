use Rattle.std.proofs.Common.{◌≡◌, ◌++◌, ◌%◌, map, take}
use Rattle.flow_graph.specs.Numbers.{type_of_code}
use Rattle.flow_graph.proofs.flows.push_temp_types.Given as goal

abbrev pub invariant-loop-k : goal.invariant-loop-k
invariant-loop-k l = l.slots.items ≡ l.fn.slots.items ++ map (λ k. type_of_code (k % l.types)) (take l.k-index l.keys)
