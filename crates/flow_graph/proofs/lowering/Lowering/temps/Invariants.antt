use Rattle.std.proofs.Common.{◌≡◌, ◌≤◌, ◌+◌, ◌++◌, drop}
use Rattle.c_tree.specs.Nodes.{node_count_of}
use Rattle.c_tree.specs.View.{exprs_view}
use Rattle.flow_graph.specs.Edges.{temps}
use Rattle.flow_graph.proofs.lowering.Lowering.temps.Given as goal

abbrev pub invariant-loop-e : goal.invariant-loop-e
invariant-loop-e l = record {
  count : l.k + node_count_of (exprs_view (drop l.e-index l.es)) ≡ l.n + node_count_of (exprs_view l.es);
  below : l.n ≤ l.k;
  slots : l.items.items ++ temps l.self.infos.now l.self.base l.k (exprs_view (drop l.e-index l.es)) ≡ temps l.self.infos.now l.self.base l.n (exprs_view l.es);
}
