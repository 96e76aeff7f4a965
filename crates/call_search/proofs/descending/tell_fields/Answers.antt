use Rattle.std.proofs.Common.{inr, sym, subst, ◌++◌, ◌∷◌, [], set, true, List}
use Rattle.std.proofs.lemmas.Result.{IfOk-weaker}
use Rattle.zo_core.specs.Literals.{Literal}
use Rattle.call_search.specs.declared.descending.Frame.{Frame}
use Rattle.call_search.specs.declared.descending.Mark.TheVariants as mark
use Rattle.call_search.specs.Frames.{AreFrames, IsFirstAt, MarkIs, SteppedIs}
use Rattle.call_search.proofs.Descent.{frames_last, waits_new}
use Rattle.call_search.proofs.Steps.{given_up, passed, first_unmarked, mark_missing, marked_frames, stepped_marked}
use Rattle.call_search.proofs.descending.tell_fields.Goals as goal

pub tell-requires-clause-new : goal.tell-requires-clause-new
tell-requires-clause-new g c =
    waits_new (g.G.Shapes.system c.args.groups.now) (g.G.Groups.counting c.args.groups.now) c.args.phi.now c.local_lines_are_true.ensures c.args.ledger.now.lines c.args.frame c.args.line (frames_last (g.G.Shapes.system c.args.groups.now) (g.G.Groups.counting c.args.groups.now) c.args.ledger.now.lines c.args.phi.now c.args.stack.now.items c.args.frame c.requires.frames) c.requires.said
    (inr (mark_missing c.args.frame.marks c.args.line.lits (subst (λ (ls : List Literal). MarkIs c.args.frame.marks ls mark.Missing) c.lits.ensures.lits c.in-Missing.ensures)))

pub go_past-requires-clause-frames : goal.go_past-requires-clause-frames
go_past-requires-clause-frames g c =
    subst (λ (x : Frame). AreFrames (g.G.Shapes.system c.args.groups.now) (g.G.Groups.counting c.args.groups.now) c.args.ledger.now.lines c.args.phi.now (c.args.stack.now.items ++ x ∷ [])) (sym c.set_mark.ensures)
    (marked_frames (g.G.Shapes.system c.args.groups.now) (g.G.Groups.counting c.args.groups.now) c.args.ledger.now.lines c.args.phi.now c.args.stack.now.items c.args.frame c.in-Clear.at c.in-Clear.ensures.0 c.requires.frames)

pub go_past-requires-clause-new : goal.go_past-requires-clause-new
go_past-requires-clause-new g c =
    waits_new (g.G.Shapes.system c.args.groups.now) (g.G.Groups.counting c.args.groups.now) c.args.phi.now c.local_lines_are_true.ensures c.args.ledger.now.lines c.args.frame c.args.line (frames_last (g.G.Shapes.system c.args.groups.now) (g.G.Groups.counting c.args.groups.now) c.args.ledger.now.lines c.args.phi.now c.args.stack.now.items c.args.frame c.requires.frames) c.requires.said
    (inr (first_unmarked c.args.frame.marks c.in-Clear.at c.args.line.lits (subst (λ (ls : List Literal). IsFirstAt ls c.in-Clear.at) c.lits.ensures.lits c.in-Clear.ensures.2) c.in-Clear.ensures.1))

pub returns-in-Clear : goal.returns-in-Clear
returns-in-Clear g c =
    IfOk-weaker c.go_past.result (SteppedIs (g.G.Shapes.system c.args.groups.now) (g.G.Groups.counting c.args.groups.now) c.args.phi.now c.args.ledger.now c.go_past.new.ledger c.go_past.new.kept.items (c.args.stack.now.items ++ c.set_mark.new.frame ∷ []) c.go_past.new.stack.items)
    (SteppedIs (g.G.Shapes.system c.args.groups.now) (g.G.Groups.counting c.args.groups.now) c.args.phi.now c.args.ledger.now c.go_past.new.ledger c.go_past.new.kept.items (c.args.stack.now.items ++ c.args.frame ∷ []) c.go_past.new.stack.items)
    (λ x h. stepped_marked (g.G.Shapes.system c.args.groups.now) (g.G.Groups.counting c.args.groups.now) c.args.phi.now c.args.ledger.now c.go_past.new.ledger c.go_past.new.kept.items c.args.stack.now.items c.args.frame (set c.args.frame.marks c.in-Clear.at true) c.go_past.new.stack.items x
    (subst (λ (y : Frame). SteppedIs (g.G.Shapes.system c.args.groups.now) (g.G.Groups.counting c.args.groups.now) c.args.phi.now c.args.ledger.now c.go_past.new.ledger c.go_past.new.kept.items (c.args.stack.now.items ++ y ∷ []) c.go_past.new.stack.items x) c.set_mark.ensures h)) c.go_past.ensures

pub returns : goal.returns
returns g c = passed (g.G.Shapes.system c.args.groups.now) (g.G.Groups.counting c.args.groups.now) c.args.phi.now c.args.ledger.now c.args.kept.now.items c.args.stack.now.items c.push.new.self.items c.args.frame c.requires.ledger c.requires.frames c.requires.kept c.requires.site c.in_ok-push-in-Set.ensures.items

pub returns-in-None : goal.returns-in-None
returns-in-None g c =
    given_up (g.G.Shapes.system c.args.groups.now) (g.G.Groups.counting c.args.groups.now) c.args.phi.now (g.met.G.Shapes.shaped c.args.groups.now) c.args.line c.args.ledger.now c.tell.new.ledger c.args.kept.now.items c.tell.new.kept.items c.args.stack.now.items c.args.frame c.requires.frames c.requires.kept c.requires.said.group c.in_ok-tell-in-Missing.field-0 c.in-None.is c.in_ok-tell-in-Missing.ensures c.ended.result c.ended.ensures
