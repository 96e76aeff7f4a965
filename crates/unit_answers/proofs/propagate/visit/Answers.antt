use Rattle.std.proofs.Common.{◌≡◌, ◌+◌, ◌||◌, List, length, get_or, ◌∙◌, Some, slice_get, refl, ap, sym, subst, arith}
use Rattle.std.proofs.lemmas.Option.{slice_get-get_or, slice_get_read}
use Rattle.zo_core.specs.Literals.{Literal}
use Rattle.transfer_rules.specs.Table.{no_clause}
use Rattle.unit_answers.specs.Propagation.{IsVisited, IsForceStep}
use Rattle.unit_answers.proofs.Forcing.{visited_more}
use Rattle.unit_answers.proofs.propagate.visit.Goals as goal

pub lits-preserved : goal.lits-preserved
lits-preserved c =
    let rows = c.args.table.now in
    let row = get_or rows c.args.number no_clause in
    let clause = c.lits-clause.result.now in
    let is : clause ≡ row.lits = c.lits-clause.ensures in
    let at : slice_get rows c.args.number ≡ Some row = slice_get-get_or rows c.args.number no_clause c.requires.number in
    let own : slice_get clause c.lits.lit-index ≡ Some c.lit-item.result =
    slice_get_read clause (length clause) c.lits.lit-index c.lit-item.result refl (omega arith) c.lit-item.is in
    let here : slice_get row.lits c.lits.lit-index ≡ Some c.lit-item.result = ap (λ (ls : List Literal). slice_get ls c.lits.lit-index) (sym is) ∙ own in
    let before : IsVisited rows row.lits c.lits.lit-index c.args.trail.now c.lits.trail c.lits.changed =
    subst (λ (ls : List Literal). IsVisited rows ls c.lits.lit-index c.args.trail.now c.lits.trail c.lits.changed) is c.lits.invariant in
    let step : IsForceStep row.lits c.args.number c.lit-item.result c.lits.trail c.force.new.trail c.in_ok-changed.field-0 =
    subst (λ (ls : List Literal). IsForceStep ls c.args.number c.lit-item.result c.lits.trail c.force.new.trail c.in_ok-changed.field-0) is c.in_ok-changed.ensures in
    subst (λ (ls : List Literal). IsVisited rows ls (c.lits.lit-index + 1) c.args.trail.now c.force.new.trail (c.lits.changed || c.in_ok-changed.field-0)) (sym is)
    (visited_more rows c.args.number row at c.lits.lit-index c.lit-item.result here c.args.trail.now c.lits.trail c.force.new.trail
    c.lits.changed c.in_ok-changed.field-0 before step)
