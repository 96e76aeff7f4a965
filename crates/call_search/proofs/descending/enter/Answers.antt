use Rattle.std.proofs.Common.{refl, ◌∙◌, ap, sym, List, ◌++◌, ◌∷◌, []}
use Rattle.std.proofs.lemmas.Result.{IfOk-weaker}
use Rattle.verdict_meaning.specs.declared.callee.Callee.{Callee}
use Rattle.verdict_meaning.specs.Solutions.{sigma_by}
use Rattle.verdict_meaning.specs.Certificates.{bit_at}
use Rattle.call_search.specs.declared.descending.Frame.{Frame}
use Rattle.call_search.specs.Answers.{given_for}
use Rattle.call_search.specs.Frames.{SteppedIs}
use Rattle.call_search.proofs.Descent.{frames_last, frame_phi, nested_last}
use Rattle.call_search.proofs.Steps.{solved_on, entered_on, refused_extends, refused_frames, refused_kept, refused_denied, stepped_after}
use Rattle.call_search.proofs.descending.enter.Goals as goal

pub given_at-requires-clause-group : goal.given_at-requires-clause-group
given_at-requires-clause-group g c = nested_last (g.G.Shapes.system c.args.groups.now) c.args.stack.now.items c.args.frame c.requires.frames.nested

pub given_at-requires-clause-size : goal.given_at-requires-clause-size
given_at-requires-clause-size g c = (frames_last (g.G.Shapes.system c.args.groups.now) (g.G.Groups.counting c.args.groups.now) c.args.ledger.now.lines c.args.phi.now c.args.stack.now.items c.args.frame c.requires.frames).asker.size

pub given_at-requires-clause-phi : goal.given_at-requires-clause-phi
given_at-requires-clause-phi g c = frame_phi (g.G.Shapes.system c.args.groups.now) (g.G.Groups.counting c.args.groups.now) c.args.ledger.now.lines c.args.phi.now c.args.stack.now.items c.args.frame c.requires.frames

pub turn-requires-clause-frames : goal.turn-requires-clause-frames
turn-requires-clause-frames g c =
    refused_frames (g.G.Shapes.system c.args.groups.now) (g.G.Groups.counting c.args.groups.now) (g.met.G.Shapes.shaped c.args.groups.now) c.args.phi.now c.args.stack.now.items c.args.frame c.args.ledger.now c.solve.new.ledger c.requires.ledger c.requires.frames c.requires.site c.callee-callee.result (sigma_by (g.G.Shapes.system c.args.groups.now) c.args.frame.group (bit_at c.args.frame.bits) c.args.frame.site) c.deref.result.now c.in_ok-solve.field-0 c.in_ok-solve.ensures c.callee-callee.ensures refl
    (c.deref.ensures.value ∙ c.in_ok-given.ensures.literals ∙ ap (λ (k : Callee). given_for (g.G.Shapes.system c.args.groups.now) c.args.phi.now k (sigma_by (g.G.Shapes.system c.args.groups.now) c.args.frame.group (bit_at c.args.frame.bits) c.args.frame.site)) (sym c.callee-callee.ensures))
    c.in-Conflict.n c.in-Conflict.is

pub turn-requires-clause-kept : goal.turn-requires-clause-kept
turn-requires-clause-kept g c =
    refused_kept (g.G.Shapes.system c.args.groups.now) (g.G.Groups.counting c.args.groups.now) (g.met.G.Shapes.shaped c.args.groups.now) c.args.phi.now c.args.stack.now.items c.args.frame c.args.ledger.now c.solve.new.ledger c.requires.ledger c.requires.frames c.requires.site c.callee-callee.result (sigma_by (g.G.Shapes.system c.args.groups.now) c.args.frame.group (bit_at c.args.frame.bits) c.args.frame.site) c.deref.result.now c.in_ok-solve.field-0 c.in_ok-solve.ensures c.callee-callee.ensures refl
    (c.deref.ensures.value ∙ c.in_ok-given.ensures.literals ∙ ap (λ (k : Callee). given_for (g.G.Shapes.system c.args.groups.now) c.args.phi.now k (sigma_by (g.G.Shapes.system c.args.groups.now) c.args.frame.group (bit_at c.args.frame.bits) c.args.frame.site)) (sym c.callee-callee.ensures))
    c.in-Conflict.n c.in-Conflict.is c.args.kept.now.items c.requires.kept

pub turn-requires-clause-denied : goal.turn-requires-clause-denied
turn-requires-clause-denied g c =
    refused_denied (g.G.Shapes.system c.args.groups.now) (g.G.Groups.counting c.args.groups.now) (g.met.G.Shapes.shaped c.args.groups.now) c.args.phi.now c.args.stack.now.items c.args.frame c.args.ledger.now c.solve.new.ledger c.requires.ledger c.requires.frames c.requires.site c.callee-callee.result (sigma_by (g.G.Shapes.system c.args.groups.now) c.args.frame.group (bit_at c.args.frame.bits) c.args.frame.site) c.deref.result.now c.in_ok-solve.field-0 c.in_ok-solve.ensures c.callee-callee.ensures refl
    (c.deref.ensures.value ∙ c.in_ok-given.ensures.literals ∙ ap (λ (k : Callee). given_for (g.G.Shapes.system c.args.groups.now) c.args.phi.now k (sigma_by (g.G.Shapes.system c.args.groups.now) c.args.frame.group (bit_at c.args.frame.bits) c.args.frame.site)) (sym c.callee-callee.ensures))
    c.in-Conflict.n c.in-Conflict.is

pub returns-in-Sat : goal.returns-in-Sat
returns-in-Sat g c =
    solved_on (g.G.Shapes.system c.args.groups.now) (g.G.Groups.counting c.args.groups.now) (g.met.G.Shapes.shaped c.args.groups.now) c.args.phi.now c.args.stack.now.items c.args.frame c.args.ledger.now c.solve.new.ledger c.requires.ledger c.requires.frames c.requires.site c.callee-callee.result (sigma_by (g.G.Shapes.system c.args.groups.now) c.args.frame.group (bit_at c.args.frame.bits) c.args.frame.site) c.deref.result.now c.in_ok-solve.field-0 c.in_ok-solve.ensures c.callee-callee.ensures refl
    (c.deref.ensures.value ∙ c.in_ok-given.ensures.literals ∙ ap (λ (k : Callee). given_for (g.G.Shapes.system c.args.groups.now) c.args.phi.now k (sigma_by (g.G.Shapes.system c.args.groups.now) c.args.frame.group (bit_at c.args.frame.bits) c.args.frame.site)) (sym c.callee-callee.ensures))
    c.in-Sat.field-0 c.in-Sat.is c.args.kept.now.items c.push.new.self.items c.requires.kept c.in_ok-push-in-Sat.ensures.items

pub returns-in-Sat-2 : goal.returns-in-Sat-2
returns-in-Sat-2 g c =
    entered_on (g.G.Shapes.system c.args.groups.now) (g.G.Groups.counting c.args.groups.now) (g.met.G.Shapes.shaped c.args.groups.now) c.args.phi.now c.args.stack.now.items c.args.frame c.args.ledger.now c.solve.new.ledger c.requires.ledger c.requires.frames c.requires.site c.callee-callee.result (sigma_by (g.G.Shapes.system c.args.groups.now) c.args.frame.group (bit_at c.args.frame.bits) c.args.frame.site) c.deref.result.now c.in_ok-solve.field-0 c.in_ok-solve.ensures c.callee-callee.ensures refl
    (c.deref.ensures.value ∙ c.in_ok-given.ensures.literals ∙ ap (λ (k : Callee). given_for (g.G.Shapes.system c.args.groups.now) c.args.phi.now k (sigma_by (g.G.Shapes.system c.args.groups.now) c.args.frame.group (bit_at c.args.frame.bits) c.args.frame.site)) (sym c.callee-callee.ensures))
    c.in-Sat.field-0 c.in-Sat.is c.args.kept.now.items c.push-in-Sat-2-2.new.self.items c.requires.kept
    (c.in_ok-push-in-Sat-2-2.ensures.items ∙ ap (λ (xs : List Frame). xs ++ c.entered.result ∷ []) c.in_ok-push-in-Sat-2.ensures.items ∙ ap (λ (x : Frame). (c.args.stack.now.items ++ c.args.frame ∷ []) ++ x ∷ []) c.entered.ensures)

pub returns-in-Conflict : goal.returns-in-Conflict
returns-in-Conflict g c =
    IfOk-weaker c.turn.result (SteppedIs (g.G.Shapes.system c.args.groups.now) (g.G.Groups.counting c.args.groups.now) c.args.phi.now c.solve.new.ledger c.turn.new.ledger c.turn.new.kept.items (c.args.stack.now.items ++ c.args.frame ∷ []) c.turn.new.stack.items)
    (SteppedIs (g.G.Shapes.system c.args.groups.now) (g.G.Groups.counting c.args.groups.now) c.args.phi.now c.args.ledger.now c.turn.new.ledger c.turn.new.kept.items (c.args.stack.now.items ++ c.args.frame ∷ []) c.turn.new.stack.items)
    (λ x h. stepped_after (g.G.Shapes.system c.args.groups.now) (g.G.Groups.counting c.args.groups.now) c.args.phi.now c.args.ledger.now c.solve.new.ledger c.turn.new.ledger c.turn.new.kept.items (c.args.stack.now.items ++ c.args.frame ∷ []) c.turn.new.stack.items x
    (refused_extends (g.G.Shapes.system c.args.groups.now) (g.G.Groups.counting c.args.groups.now) (g.met.G.Shapes.shaped c.args.groups.now) c.args.phi.now c.args.stack.now.items c.args.frame c.args.ledger.now c.solve.new.ledger c.requires.ledger c.requires.frames c.requires.site c.callee-callee.result (sigma_by (g.G.Shapes.system c.args.groups.now) c.args.frame.group (bit_at c.args.frame.bits) c.args.frame.site) c.deref.result.now c.in_ok-solve.field-0 c.in_ok-solve.ensures c.callee-callee.ensures refl
    (c.deref.ensures.value ∙ c.in_ok-given.ensures.literals ∙ ap (λ (k : Callee). given_for (g.G.Shapes.system c.args.groups.now) c.args.phi.now k (sigma_by (g.G.Shapes.system c.args.groups.now) c.args.frame.group (bit_at c.args.frame.bits) c.args.frame.site)) (sym c.callee-callee.ensures))
    c.in-Conflict.n c.in-Conflict.is) h) c.turn.ensures
