use Rattle.std.proofs.Common.{◌≡◌, ◌++◌, ◌||◌, drop}
use Rattle.c_tree.specs.View.{exprs_view}
use Rattle.c_types.specs.Breaches.{soonest, sooner}
use Rattle.c_types.specs.Exprs.{misfits, args_breaches, args_infos}
use Rattle.c_types.proofs.exprs.+check.Given as goal

abbrev pub invariant-check_args-loop-i : goal.invariant-check_args-loop-i
invariant-check_args-loop-i l = record {
  misfit : (l.misfit || misfits l.tables l.scope (drop l.i l.params) (exprs_view (drop l.i l.es))) ≡ misfits l.tables l.scope l.params (exprs_view l.es);
  first : sooner l.first (args_breaches soonest l.tables l.scope (drop l.i l.params) (exprs_view (drop l.i l.es))) ≡ args_breaches soonest l.tables l.scope l.params (exprs_view l.es);
  nodes : l.nodes.items ++ args_infos l.tables l.scope (drop l.i l.params) (exprs_view (drop l.i l.es)) ≡ l.fn.nodes.items ++ args_infos l.tables l.scope l.params (exprs_view l.es);
}
