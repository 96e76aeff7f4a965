use Rattle.std.proofs.Common.{◌≡◌, length, Some, refl, sym, ap, subst, ◌∙◌, arith}
use Rattle.std.proofs.lemmas.List.{length_push}
use Rattle.conflict_proof.specs.declared.derivation.Line.{Line}
use Rattle.zo_solver.specs.Clauses.{numbered}
use Rattle.group_solver.specs.Marks.{PremisesAreBelow}
use Rattle.group_solver.specs.Rows.{rows_in}
use Rattle.group_solver.proofs.Lists.{numbered_below}
use Rattle.group_solver.proofs.Marked.{below_is}
use Rattle.group_solver.proofs.Copied.{row_there}
use Rattle.group_solver.proofs.copying.copy_line.Goals as goal

pub how_of-requires-clause-row : goal.how_of-requires-clause-row
how_of-requires-clause-row c =
    let a = c.args.solver.now in
    let here = numbered_below a.lines c.args.number c.requires.some c.requires.there in
    row_there (rows_in c.args.table.now) a c.args.number here.0 c.origin.result c.requires.given (c.origin.ensures.is_true here.0 here.1)

pub how_of-requires-clause-premises : goal.how_of-requires-clause-premises
how_of-requires-clause-premises c =
    let a = c.args.solver.now in
    let here = numbered_below a.lines c.args.number c.requires.some c.requires.there in
    subst (λ n. PremisesAreBelow n c.origin.result) c.requires.places (below_is a.given a.lines c.args.number here.0 c.origin.result (c.origin.ensures.is_true here.0 here.1))

pub push-requires-clause-words : goal.push-requires-clause-words
push-requires-clause-words c =
    c.requires.room c.in_ok-lits.lits (c.line.ensures.clause ∙ ap Some (sym c.in_ok-lits.ensures.literals))

pub push-requires-clause-few : goal.push-requires-clause-few
push-requires-clause-few c = let old = ap length c.lines.ensures in let value = c.in-Ok.ensures in omega (arith, value.1)

pub returns : goal.returns
returns c =
    let a = c.args.solver.now in
    let line : Line = record { group = c.args.group; how = c.in_ok-how.how; lits = c.in_ok-lits.lits } in
    let at : numbered a.lines c.args.number ≡ Some c.in_ok-lits.lits = c.line.ensures.clause ∙ ap Some (sym c.in_ok-lits.ensures.literals) in
    let value = c.in-Ok.ensures in
    let place = value.1 in
    let old = ap length c.lines.ensures in
    let new = ap length c.in_ok-push.ensures.lines in
    let more = length_push c.args.ledger.now.lines line in
    record {
      line = line;
      is = c.in_ok-push.ensures.lines;
      group = refl;
      clause = c.in_ok-lits.ensures.clause;
      clause_at = at;
      origin = c.origin.result;
      origin_at = c.origin.ensures.origin;
      origin_true = c.origin.ensures.is_true c.in_ok-lits.lits at;
      how = c.in_ok-how.ensures;
      words = c.in_ok-push.ensures.words;
      place_is = omega arith;
    }
