use Rattle.std.proofs.Common.{sym, ◌∙◌}
use Rattle.c_tree.specs.View.{tree_view}
use Rattle.c_types.specs.Items.{has_main, limit_passed}
use Rattle.c_types.proofs.Law.{well_typed, nothing_refused}
use Rattle.c_types.proofs.check.check_types.Goals as goal

pub invariant_of-result-clause-well_typed : goal.invariant_of-result-clause-well_typed
invariant_of-result-clause-well_typed c =
    let checked = c.in_ok-checked.checked in
    let n = nothing_refused checked.first (has_main (tree_view c.args.tree)) (limit_passed checked.structs checked.procs) (sym c.refusal_for.ensures ∙ c.in-None.is) in
    well_typed (tree_view c.args.tree) (sym c.in_ok-checked.ensures.first ∙ n.0)

pub invariant_of-result-clause-within_limits : goal.invariant_of-result-clause-within_limits
invariant_of-result-clause-within_limits c =
    let checked = c.in_ok-checked.checked in
    let n = nothing_refused checked.first (has_main (tree_view c.args.tree)) (limit_passed checked.structs checked.procs) (sym c.refusal_for.ensures ∙ c.in-None.is) in
    n.2
