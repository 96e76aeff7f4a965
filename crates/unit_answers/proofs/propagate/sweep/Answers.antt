use Rattle.std.proofs.Common.{◌≡◌, get_or, Some, slice_get, arith}
use Rattle.std.proofs.lemmas.Option.{slice_get-get_or}
use Rattle.transfer_rules.specs.Table.{no_clause}
use Rattle.unit_answers.proofs.Forcing.{swept_more}
use Rattle.unit_answers.proofs.propagate.sweep.Goals as goal

pub clauses-preserved : goal.clauses-preserved
clauses-preserved c =
    let rows = c.args.table.now in
    let n = c.clauses.number in
    let row = get_or rows n no_clause in
    let at : slice_get rows n ≡ Some row = slice_get-get_or rows n no_clause (omega arith) in
    swept_more rows n row at c.args.trail.now c.clauses.trail c.visit.new.trail c.clauses.changed c.in_ok-changed.field-0
    c.clauses.invariant c.in_ok-changed.ensures
