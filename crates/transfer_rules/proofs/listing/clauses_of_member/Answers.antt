use Rattle.std.proofs.Common.{◌≡◌, ◌<◌, ◌≤◌, List, Option, Some, None, sym, ap, ◌∙◌, subst}
use Rattle.std.specs.Prelude.{IfOk, MatchOption, option_map}
use Rattle.zo_core.specs.Literals.{Literal}
use Rattle.transfer_rules.specs.Body.{Body, sight, setting}
use Rattle.transfer_rules.specs.Exist.{EdgesExist}
use Rattle.transfer_rules.specs.Names.{condition_clauses, condition_in}
use Rattle.transfer_rules.specs.Programs.{group_at}
use Rattle.transfer_rules.specs.Rules.{constraints_at}
use Rattle.transfer_rules.proofs.Members.{in_contains}
use Rattle.transfer_rules.proofs.Named.{no_place, at_place}
use Rattle.transfer_rules.proofs.Whole.{member_edges}
use Rattle.transfer_rules.proofs.listing.clauses_of_member.Goals as goal

pub body_of-body-requires-clause-member : goal.body_of-body-requires-clause-member
body_of-body-requires-clause-member c = in_contains (group_at c.args.program.now.groups c.args.group) c.args.name.now.proc c.requires.member

pub returns-then-name-places : goal.returns-then-name-places
returns-then-name-places c =
    let p = c.args.program.now in
    let e = c.places.ensures ∙ ap (λ (b : Body). (sight b).places) c.body_of-body.ensures in
    no_place p.graph p.facts (group_at p.groups c.args.group) c.args.name.now c.requires.member (subst (λ k. k ≤ c.args.name.now.place) e c.if-name-places.true)

pub clauses_at-requires : goal.clauses_at-requires
clauses_at-requires c =
    let p = c.args.program.now in
    let e = c.places.ensures ∙ ap (λ (b : Body). (sight b).places) c.body_of-body.ensures in
    let P : Body → Type 0 = λ b. EdgesExist (sight b) (setting b) c.args.name.now.place in
    let member = in_contains (group_at p.groups c.args.group) c.args.name.now.proc c.requires.member in
    subst P (sym c.body_of-body.ensures) (member_edges p c.args.group c.args.name.now.proc c.law.ensures c.requires.group member c.args.name.now.place (subst (λ k. c.args.name.now.place < k) e c.if-name-places.false))

pub returns : goal.returns
returns c =
    let p = c.args.program.now in
    let n = c.args.name.now in
    let e = c.places.ensures ∙ ap (λ (b : Body). (sight b).places) c.body_of-body.ensures in
    let at = at_place p.graph p.facts (group_at p.groups c.args.group) n c.requires.member (subst (λ k. n.place < k) e c.if-name-places.false) in
    let here = ap (λ (b : Body). option_map condition_clauses (condition_in (constraints_at (sight b) (setting b) n.place) n)) c.body_of-body.ensures ∙ sym at in
    let P : Option (List (List Literal)) → Type 0 = λ x. IfOk c.clauses_at.result (λ o. MatchOption o (x ≡ None) (λ cs. x ≡ Some cs.items)) in
    subst P here c.clauses_at.ensures
