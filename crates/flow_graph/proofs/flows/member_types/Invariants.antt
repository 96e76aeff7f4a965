use Rattle.std.proofs.Common.{◌≡◌, take}
use Rattle.flow_graph.specs.GraphOf.{member_types}
use Rattle.flow_graph.proofs.flows.member_types.Given as goal

abbrev pub invariant-loop-s : goal.invariant-loop-s
invariant-loop-s l = l.rows.items ≡ member_types (take l.s-index l.structs)
