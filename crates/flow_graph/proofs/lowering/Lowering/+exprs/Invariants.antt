use Rattle.std.proofs.Common.{◌≡◌, ◌≤◌, ◌+◌, ◌*◌, drop}
use Rattle.c_tree.specs.Nodes.{node_count, node_count_of}
use Rattle.c_tree.specs.View.{expr_view, exprs_view}
use Rattle.flow_graph.specs.Edges.{args}
use Rattle.flow_graph.proofs.lowering.Lowering.+exprs.Given as goal

-- how many nodes are left, and among calls on one node the order of these functions

abbrev pub decreases-run : goal.decreases-run
decreases-run l = 8 * node_count (expr_view l.e.now) + 2

abbrev pub decreases-combine : goal.decreases-combine
decreases-combine l = 8 * (node_count (expr_view l.operands.first.now) + node_count (expr_view l.operands.second.now) + 1) + 1

abbrev pub decreases-branch : goal.decreases-branch
decreases-branch l = 8 * (node_count (expr_view l.operands.first.now) + node_count (expr_view l.operands.second.now) + 1)

abbrev pub decreases-differ : goal.decreases-differ
decreases-differ l = 8 * (node_count (expr_view l.operands.first.now) + node_count (expr_view l.operands.second.now)) + 7

abbrev pub decreases-both : goal.decreases-both
decreases-both l = 8 * (node_count (expr_view l.operands.first.now) + node_count (expr_view l.operands.second.now)) + 6

abbrev pub decreases-test_null : goal.decreases-test_null
decreases-test_null l = 8 * node_count (expr_view l.e.now) + 5

abbrev pub decreases-test : goal.decreases-test
decreases-test l = 8 * node_count (expr_view l.e.now) + 4

abbrev pub decreases-test_value : goal.decreases-test_value
decreases-test_value l = 8 * node_count (expr_view l.e.now) + 3

abbrev pub decreases-operand : goal.decreases-operand
decreases-operand l = 8 * node_count (expr_view l.e.now) + 3

abbrev pub decreases-args : goal.decreases-args
decreases-args l = 8 * node_count_of (exprs_view l.es.now) + 3

abbrev pub invariant-args-loop-i : goal.invariant-args-loop-i
invariant-args-loop-i l = record {
  count : l.k + node_count_of (exprs_view (drop l.i l.es)) ≡ l.n + node_count_of (exprs_view l.es);
  below : l.n ≤ l.k;
  start : l.next ≡ (args l.self.infos.now l.self.base l.k (exprs_view (drop l.i l.es)) l.fn.to).start;
  edges : l.out.items ≡ (args l.self.infos.now l.self.base l.k (exprs_view (drop l.i l.es)) l.fn.to).after l.fn.out.items;
}
