use Rattle.std.proofs.Common.{ℕ, ◌+◌, List, length, sym, ap, subst, ◌∙◌, arith}
use Rattle.zo_core.specs.Literals.{Literal}
use Rattle.conflict_proof.specs.declared.derivation.Line.{Line}
use Rattle.verdict_meaning.specs.Derivations.{cost_of, NoClauseTwice}
use Rattle.call_search.specs.Indexes.{ArePlaces}
use Rattle.zo_solver.specs.Clauses.{EachClause, AreWithin}
use Rattle.zo_solver.specs.Trail.{IsClauseOver}
use Rattle.zo_solver.specs.Accounts.{IsFresh}
use Rattle.group_solver.specs.Lemmas.{words_of, AreOver, HasLemmas}
use Rattle.group_solver.specs.Rows.{rows_in}
use Rattle.group_solver.proofs.Lists.{clauses_within}
use Rattle.group_solver.proofs.Adding.{words_le, length_cost, begun}
use Rattle.group_solver.proofs.solving.begin.Goals as goal

pub overflow_add-words : goal.overflow_add-words
overflow_add-words c =
    let l = c.args.ledger.now in
    let le = words_le c.args.group l.lines in
    let own = c.own_cost.ensures ∙ ap (words_of c.args.group) c.lines-lines.ensures in
    let left = c.words.ensures in
    let small = c.requires.small in
    omega arith

pub new-requires-clause-within : goal.new-requires-clause-within
new-requires-clause-within c =
    subst (λ (cs : List (List Literal)). EachClause (AreWithin c.args.vars) cs) (sym c.deref.ensures.value) (clauses_within c.args.vars c.in_ok-clauses.clauses.items c.in_ok-clauses.ensures.over)

pub new-requires-clause-small : goal.new-requires-clause-small
new-requires-clause-small c =
    let l = c.args.ledger.now in
    let le = words_le c.args.group l.lines in
    let own = c.own_cost.ensures ∙ ap (words_of c.args.group) c.lines-lines.ensures in
    let left = c.words.ensures in
    let small = c.requires.small in
    omega arith

pub own_cost-requires-clause-small : goal.own_cost-requires-clause-small
own_cost-requires-clause-small c =
    let l = c.args.ledger.now in
    let same = ap cost_of c.lines-lines.ensures in
    let small = c.requires.small in
    omega arith

pub own_cost-requires-clause-places : goal.own_cost-requires-clause-places
own_cost-requires-clause-places c = subst (λ (ls : List Line). ArePlaces ls c.args.group 0 c.of_group-of_group.result.now) (sym c.lines-lines.ensures) c.of_group-of_group.ensures

pub add_lemmas-requires-clause-places : goal.add_lemmas-requires-clause-places
add_lemmas-requires-clause-places c = subst (λ (ls : List Line). ArePlaces ls c.args.group 0 c.of_group-of_group.result.now) (sym c.lines-lines.ensures) c.of_group-of_group.ensures

pub add_lemmas-requires-clause-once : goal.add_lemmas-requires-clause-once
add_lemmas-requires-clause-once c = subst NoClauseTwice (sym c.lines-lines.ensures) c.requires.once

pub add_lemmas-requires-clause-over : goal.add_lemmas-requires-clause-over
add_lemmas-requires-clause-over c =
    subst (λ (n : ℕ). AreOver n c.args.group c.lines-lines.result.now) (sym c.in_ok-solver.ensures.vars_are) (subst (λ (ls : List Line). AreOver c.args.vars c.args.group ls) (sym c.lines-lines.ensures) c.requires.over)

pub add_lemmas-requires-clause-few : goal.add_lemmas-requires-clause-few
add_lemmas-requires-clause-few c =
    let l = c.args.ledger.now in
    let le = length_cost l.lines in
    let same = ap length c.lines-lines.ensures in
    let small = c.requires.small in
    omega arith

pub returns : goal.returns
returns c =
    let l = c.args.ledger.now in
    let lines = c.lines-lines.ensures in
    let rows = rows_in c.args.table.now in
    begun rows c.args.group c.args.vars (c.words.result + c.own_cost.result) l c.in_ok-places.places.items c.in_ok-solver.solver c.add_lemmas.new.solver
    (subst (λ (cs : List (List Literal)). IsFresh c.args.vars cs (c.words.result + c.own_cost.result) c.in_ok-solver.solver) (c.deref.ensures.value ∙ c.in_ok-clauses.ensures.clauses) c.in_ok-solver.ensures)
    (ap (λ w. w + c.own_cost.result) c.words.ensures ∙ ap (λ n. l.words + n) (c.own_cost.ensures ∙ ap (words_of c.args.group) lines))
    (subst (λ (cs : List (List Literal)). EachClause (IsClauseOver c.args.vars) cs) c.in_ok-clauses.ensures.clauses c.in_ok-clauses.ensures.over)
    (subst (λ (ls : List Line). HasLemmas ls c.args.group (length ls) c.in_ok-places.places.items c.in_ok-solver.solver c.add_lemmas.new.solver) lines c.in_ok-places.ensures)
