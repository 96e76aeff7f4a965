use Rattle.std.proofs.Common.{◌≡◌, drop}
use Rattle.c_tree.specs.View.{exprs_view}
use Rattle.c_types.specs.Declarations.{with_exprs}
use Rattle.c_types.proofs.mentions.+exprs.Given as goal

abbrev pub invariant-add_exprs-loop-e : goal.invariant-add_exprs-loop-e
invariant-add_exprs-loop-e l = with_exprs l.tags (exprs_view (drop l.e-index l.es)) ≡ with_exprs l.fn.tags (exprs_view l.es)
