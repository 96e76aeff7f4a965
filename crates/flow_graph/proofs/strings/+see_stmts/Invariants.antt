use Rattle.std.proofs.Common.{◌≡◌, drop}
use Rattle.c_tree.specs.View.{stmts_view}
use Rattle.flow_graph.specs.Strings.{see_stmts}
use Rattle.flow_graph.proofs.strings.+see_stmts.Given as goal

abbrev pub invariant-see_stmts-loop-s : goal.invariant-see_stmts-loop-s
invariant-see_stmts-loop-s l = see_stmts (stmts_view (drop l.s-index l.ss)) l.seen ≡ see_stmts (stmts_view l.ss) l.fn.seen
