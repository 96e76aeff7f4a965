use Rattle.std.proofs.Common.{◌≡◌, ◌++◌, drop}
use Rattle.c_tree.specs.View.{stmts_view}
use Rattle.c_types.specs.Breaches.{soonest, sooner}
use Rattle.c_types.specs.Stmts.{stmts_breaches, stmts_infos, after_all}
use Rattle.c_types.proofs.stmts.+stmts.Given as goal

abbrev pub invariant-check_stmts-loop-s : goal.invariant-check_stmts-loop-s
invariant-check_stmts-loop-s l = record {
  first : sooner l.first (stmts_breaches soonest l.tables l.fn.context.returned l.fn.context.looped l.scope (stmts_view (drop l.s-index l.ss))) ≡ stmts_breaches soonest l.tables l.fn.context.returned l.fn.context.looped l.fn.scope (stmts_view l.ss);
  after : after_all l.tables l.scope (stmts_view (drop l.s-index l.ss)) ≡ after_all l.tables l.fn.scope (stmts_view l.ss);
  nodes : l.nodes.items ++ stmts_infos l.tables l.fn.context.returned l.scope (stmts_view (drop l.s-index l.ss)) ≡ l.fn.nodes.items ++ stmts_infos l.tables l.fn.context.returned l.fn.scope (stmts_view l.ss);
}
