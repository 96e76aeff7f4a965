use Rattle.std.proofs.Common.{◌≡◌, ℕ, ◌<◌, true, false, length, get_or}
use Rattle.std.specs.List.{All, Contains}
use Rattle.flow_graph.specs.FlowGraph.{flow_of}
use Rattle.path_facts.proofs.order.order_of.Given as goal

abbrev pub invariant-rest : goal.invariant-rest
invariant-rest l = record {
  within : All (λ (p : ℕ). p < length (flow_of l.graph l.proc).places) l.order.items;
  stands : (p : ℕ) → get_or l.placed.items p false ≡ true → Contains l.order.items p;
  passed : (p : ℕ) → p < l.place → Contains l.order.items p;
}
