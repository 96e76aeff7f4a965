use Rattle.std.proofs.Common.{◌≡◌, ◌++◌, drop}
use Rattle.flow_graph.specs.Numbers.{place_keys}
use Rattle.flow_graph.proofs.numbering.place_keys.Given as goal

abbrev pub invariant-loop-e : goal.invariant-loop-e
invariant-loop-e l = l.keys.items ++ place_keys (drop l.e-index l.edges) ≡ place_keys l.edges
