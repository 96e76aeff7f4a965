use Rattle.std.proofs.Common.{◌≡◌, ℕ, List, Option, Some, None, refl, ap, sym, subst, ◌∙◌}
use Rattle.std.specs.Prelude.{MatchOption}
use Rattle.transfer_rules.specs.Names.{in_scope}
use Rattle.unit_answers.specs.declared.clash.Contradiction.{Contradiction}
use Rattle.unit_answers.specs.Contradictions.{HasNoContradiction, IsFirstContradiction}
use Rattle.verdict_meaning.specs.Programs.{system_in}
use Rattle.unit_answers.specs.Tables.{table_in}
use Rattle.unit_answers.proofs.Contradictory.{clash_refutes, none_unrefuted}
use Rattle.unit_refutation.proofs.TableLemmas.{are_tables, is_asked}
use Rattle.unit_refutation.proofs.answering.refutation.Goals as goal

pub returns-in_default : goal.returns-in_default
returns-in_default c =
    let p = c.args.program.now in
    let scope = c.args.scope.now in
    let sets = c.args.closures.now in
    none_unrefuted (system_in p) (in_scope scope) (table_in p scope) sets c.requires.exact c.requires.reasons
    (subst (λ (o : Option Contradiction). MatchOption o (HasNoContradiction sets) (IsFirstContradiction sets)) c.in_default.is c.in_ok-clash.ensures)

pub refute-requires : goal.refute-requires
refute-requires c =
    let p = c.args.program.now in
    let scope = c.args.scope.now in
    let sets = c.args.closures.now in
    let first = subst (λ (o : Option Contradiction). MatchOption o (HasNoContradiction sets) (IsFirstContradiction sets)) c.in-Some.is c.in_ok-clash.ensures in
    is_asked (system_in p) (in_scope scope) (table_in p scope) sets c.in-Some.clash (are_tables p.graph p.facts p.groups scope (c.names_are_apart.ensures p.graph p.facts)) c.requires.exact c.requires.within c.requires.reasons first

pub returns : goal.returns
returns c =
    let p = c.args.program.now in
    let scope = c.args.scope.now in
    let sets = c.args.closures.now in
    let first = subst (λ (o : Option Contradiction). MatchOption o (HasNoContradiction sets) (IsFirstContradiction sets)) c.in-Some.is c.in_ok-clash.ensures in
    (clash_refutes (system_in p) (in_scope scope) (table_in p scope) sets c.requires.exact c.requires.reasons c.in-Some.clash first, c.in_ok-made.ensures)
