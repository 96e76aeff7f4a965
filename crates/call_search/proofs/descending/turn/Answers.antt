use Rattle.std.proofs.Common.{inl, subst, ℕ, List}
use Rattle.zo_core.specs.Literals.{Literal}
use Rattle.call_search.specs.Sites.{HasOther}
use Rattle.call_search.proofs.Descent.{nested_last, frames_last, waits_new}
use Rattle.call_search.proofs.descending.turn.Goals as goal

pub said_to-requires-clause-group : goal.said_to-requires-clause-group
said_to-requires-clause-group g c = nested_last (g.G.Shapes.system c.args.groups.now) c.args.stack.now.items c.args.frame c.requires.frames.nested

pub go_past-requires-clause-new : goal.go_past-requires-clause-new
go_past-requires-clause-new g c =
    waits_new (g.G.Shapes.system c.args.groups.now) (g.G.Groups.counting c.args.groups.now) c.args.phi.now c.local_lines_are_true.ensures c.args.ledger.now.lines c.args.frame c.in_ok-line.line (frames_last (g.G.Shapes.system c.args.groups.now) (g.G.Groups.counting c.args.groups.now) c.args.ledger.now.lines c.args.phi.now c.args.stack.now.items c.args.frame c.requires.frames) c.in_ok-line.ensures
    (inl (subst (λ (n : ℕ). HasOther n c.in_ok-line.line.lits) c.fields.ensures (subst (λ (ls : List Literal). HasOther c.fields.result ls) c.lits.ensures.lits c.if-is_of_fields.ensures)))
