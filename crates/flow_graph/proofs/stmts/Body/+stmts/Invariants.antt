use Rattle.std.proofs.Common.{◌≡◌, ◌≤◌, ◌+◌, ◌*◌, drop}
use Rattle.c_tree.specs.Nodes.{stmt_count, stmts_count}
use Rattle.c_tree.specs.View.{stmt_view, stmts_view, step_view}
use Rattle.flow_graph.specs.Edges.{flow_all}
use Rattle.flow_graph.proofs.stmts.Body.+stmts.Given as goal

-- how many nodes are left, and among calls on one node the order of these functions

abbrev pub decreases-flow : goal.decreases-flow
decreases-flow l = 8 * stmt_count (stmt_view l.s.now) + 3

abbrev pub decreases-flow_loop : goal.decreases-flow_loop
decreases-flow_loop l = 8 * stmt_count (stmt_view l.s.now) + 2

abbrev pub decreases-flow_turn : goal.decreases-flow_turn
decreases-flow_turn l = 8 * stmt_count (stmt_view l.s.now) + 1

abbrev pub decreases-flow_body : goal.decreases-flow_body
decreases-flow_body l = 8 * stmt_count (stmt_view l.s.now)

abbrev pub decreases-flow_step : goal.decreases-flow_step
decreases-flow_step l = 8 * stmts_count (step_view l.step.now) + 4

abbrev pub decreases-flow_all : goal.decreases-flow_all
decreases-flow_all l = 8 * stmts_count (stmts_view l.ss.now) + 4

abbrev pub invariant-flow_all-loop-i : goal.invariant-flow_all-loop-i
invariant-flow_all-loop-i l = record {
  count : l.k + stmts_count (stmts_view (drop l.i l.ss)) ≡ l.n + stmts_count (stmts_view l.ss);
  below : l.n ≤ l.k;
  start : l.next ≡ (flow_all l.self.infos.now l.exits.break_to l.exits.continue_to l.k (stmts_view (drop l.i l.ss)) l.fn.to).start;
  edges : l.out.items ≡ (flow_all l.self.infos.now l.exits.break_to l.exits.continue_to l.k (stmts_view (drop l.i l.ss)) l.fn.to).after l.fn.out.items;
}
