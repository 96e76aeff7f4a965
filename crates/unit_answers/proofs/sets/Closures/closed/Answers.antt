use Rattle.std.proofs.Common.{◌≡◌, ℕ, List, [], length, sym, subst, rules}
use Rattle.zo_core.specs.Literals.{Literal}
use Rattle.transfer_rules.specs.Names.{NamedClause, in_scope}
use Rattle.unit_answers.specs.Sets.{IsSetOf}
use Rattle.verdict_meaning.specs.Programs.{system_in}
use Rattle.unit_answers.specs.Tables.{IsTableOf}
use Rattle.unit_answers.proofs.Rows.{tables_are, root_rows}
use Rattle.unit_answers.proofs.GivenLemmas.{in_order, opened_whole}
use Rattle.unit_answers.proofs.sets.Closures.closed.Goals as goal

pub returns-then-group-len : goal.returns-then-group-len
returns-then-group-len c =
    let p = c.args.program.now in
    let s = system_in p in
    let g = c.args.group in
    let le = c.requires.group in
    let at : g ≡ length p.groups = search rules in
    let own : IsSetOf s (in_scope c.args.scope.now) g [] c.of-own.result.now =
    subst (λ (ls : List Literal). IsSetOf s (in_scope c.args.scope.now) g [] ls) (sym c.of-own.ensures) (c.requires.closures.each g le) in
    let table : IsTableOf s (in_scope c.args.scope.now) g [] =
    subst (λ (rows : List NamedClause). IsTableOf s (in_scope c.args.scope.now) g rows) (root_rows p.graph p.facts p.groups c.args.scope.now g at)
    (tables_are p.graph p.facts p.groups c.args.scope.now (c.names_are_apart.ensures p.graph p.facts) g le) in
    record {
      ascend = c.in_ok-all.ensures.ascend;
      exact = in_order s (in_scope c.args.scope.now) g [] table c.of-own.result.now own c.args.given.now c.in_ok-held.held
          (opened_whole c.of-own.result.now c.args.given.now c.in_ok-held.held c.in_ok-held.ensures.opened) c.in_ok-all.all.items c.in_ok-all.ensures.same;
    }

pub returns : goal.returns
returns c =
    let p = c.args.program.now in
    let s = system_in p in
    let g = c.args.group in
    let le = c.requires.group in
    let own : IsSetOf s (in_scope c.args.scope.now) g [] c.of-own.result.now =
    subst (λ (ls : List Literal). IsSetOf s (in_scope c.args.scope.now) g [] ls) (sym c.of-own.ensures) (c.requires.closures.each g le) in
    let table : IsTableOf s (in_scope c.args.scope.now) g c.in_ok-table.table =
    subst (λ (rows : List NamedClause). IsTableOf s (in_scope c.args.scope.now) g rows) (sym c.in_ok-table.ensures.table)
    (tables_are p.graph p.facts p.groups c.args.scope.now (c.names_are_apart.ensures p.graph p.facts) g le) in
    record {
      ascend = c.in_ok-lits.ensures.ascend;
      exact = in_order s (in_scope c.args.scope.now) g c.in_ok-table.table table c.of-own.result.now own c.args.given.now c.in_ok-trail.trail c.in_ok-trail.ensures.reopened
          c.in_ok-lits.lits.items c.in_ok-lits.ensures.same;
    }
