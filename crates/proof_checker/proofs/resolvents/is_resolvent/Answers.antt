use Rattle.std.proofs.Common.{◌≡◌, Some, None, sym, ap, ◌∙◌}
use Rattle.zo_core.specs.Resolvents.{joined_on}
use Rattle.proof_checker.proofs.PivotLemmas.{no_pivot, clash, is_resolvent}
use Rattle.proof_checker.proofs.resolvents.is_resolvent.Goals as goal

pub returns-in_default : goal.returns-in_default
returns-in_default c = no_pivot c.args.a.now c.args.b.now c.args.lits.now c.in_default.ensures

pub returns-then-not-resolve_into : goal.returns-then-not-resolve_into
returns-then-not-resolve_into c =
    let none : joined_on c.in-Some.on c.args.a.now c.args.b.now ≡ None = rw c.if-not-resolve_into.true at c.resolve_into.ensures.items in
    clash c.args.a.now c.args.b.now c.args.lits.now c.in-Some.on c.requires.first c.requires.second c.in-Some.ensures none

pub returns : goal.returns
returns c =
    let made : joined_on c.in-Some.on c.args.a.now c.args.b.now ≡ Some c.resolve_into.new.made.items = rw c.if-not-resolve_into.false at c.resolve_into.ensures.items in
    is_resolvent c.args.a.now c.args.b.now c.args.lits.now c.as_slice.result.now c.in-Some.on c.same.result c.requires.first c.requires.second c.in-Some.ensures
    (made ∙ ap Some (sym c.as_slice.ensures.value)) c.same.ensures
