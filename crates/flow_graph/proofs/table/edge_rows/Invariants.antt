use Rattle.std.proofs.Common.{◌≡◌, ◌<◌, ◌++◌, ℕ, [], drop, get_or, length}
use Rattle.flow_graph.specs.Fits.{RowsFit}
use Rattle.flow_graph.specs.Numbers.{edges_at}
use Rattle.flow_graph.proofs.table.edge_rows.Given as goal

abbrev pub invariant-loop-e : goal.invariant-loop-e
invariant-loop-e l = record {
  fit : RowsFit l.rows.items;
  size : length l.rows.items ≡ l.count;
  here : (p : ℕ) → p < l.count → get_or l.rows.items p [] ++ edges_at l.ns (drop l.e-index l.edges) p ≡ edges_at l.ns l.edges p;
}
