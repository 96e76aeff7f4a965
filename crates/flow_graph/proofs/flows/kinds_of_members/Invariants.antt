use Rattle.std.proofs.Common.{◌≡◌, map, take}
use Rattle.flow_graph.proofs.flows.kinds_of_members.Given as goal

abbrev pub invariant-loop-m : goal.invariant-loop-m
invariant-loop-m l = l.kinds.items ≡ map (λ m. m.kind) (take l.m-index l.members)
