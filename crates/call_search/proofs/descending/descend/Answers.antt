use Rattle.std.proofs.Common.{◌≡◌, ◌<◌, ◌++◌, ◌∷◌, [], ap, sym, subst, arith, List}
use Rattle.call_search.specs.declared.descending.Frame.{Frame}
use Rattle.call_search.specs.declared.descending.Step.TheVariants as step
use Rattle.call_search.specs.Frames.{AreFrames, IsOn, SteppedIs, bottom, refuted_in}
use Rattle.call_search.proofs.Settling.{extends_none}
use Rattle.call_search.proofs.Descent.{frames_first}
use Rattle.call_search.proofs.Steps.{measure, measure_falls, descended}
use Rattle.call_search.proofs.descending.descend.Goals as goal

pub loop-frame-init : goal.loop-frame-init
loop-frame-init g c = record {
  extends = extends_none (g.G.Shapes.system c.args.groups.now) (g.G.Groups.counting c.args.groups.now) c.args.ledger.now c.requires.ledger;
  frames = subst (λ (fs : List Frame). AreFrames (g.G.Shapes.system c.args.groups.now) (g.G.Groups.counting c.args.groups.now) c.args.ledger.now.lines c.args.phi.now fs) (sym c.in_ok-stack.ensures.1) (frames_first (g.G.Shapes.system c.args.groups.now) (g.G.Groups.counting c.args.groups.now) c.args.ledger.now.lines c.args.phi.now c.args.top.now c.in_ok-stack.ensures.0 c.requires.ledger.valid c.requires.asker);
  kept = c.requires.kept;
  same = ap bottom c.in_ok-stack.ensures.1;
  paid = let h : refuted_in c.in_ok-stack.stack.items ≡ 0 = ap refuted_in c.in_ok-stack.ensures.1 in omega arith;
}

pub loop-frame-smaller : goal.loop-frame-smaller
loop-frame-smaller g c =
    let on : IsOn (g.G.Shapes.system c.args.groups.now) (g.G.Groups.counting c.args.groups.now) c.args.phi.now c.loop-frame.ledger c.visit.new.ledger c.visit.new.kept.items (c.pop.new.self.items ++ c.in-Some.frame ∷ []) c.visit.new.stack.items =
    subst (SteppedIs (g.G.Shapes.system c.args.groups.now) (g.G.Groups.counting c.args.groups.now) c.args.phi.now c.loop-frame.ledger c.visit.new.ledger c.visit.new.kept.items (c.pop.new.self.items ++ c.in-Some.frame ∷ []) c.visit.new.stack.items) c.in-On.is c.in_ok-visit.ensures in
    subst (λ (fs : List Frame). measure (g.G.Shapes.system c.args.groups.now) c.visit.new.ledger c.visit.new.stack.items < measure (g.G.Shapes.system c.args.groups.now) c.loop-frame.ledger fs) (sym c.in-Some.ensures.items)
    (measure_falls (g.G.Shapes.system c.args.groups.now) (g.met.G.Shapes.shaped c.args.groups.now) c.loop-frame.ledger c.visit.new.ledger (c.pop.new.self.items ++ c.in-Some.frame ∷ []) c.visit.new.stack.items on.frames.nested on.falls)

pub returns-in-Ended : goal.returns-in-Ended
returns-in-Ended g c =
    descended (g.G.Shapes.system c.args.groups.now) (g.G.Groups.counting c.args.groups.now) c.args.phi.now c.args.top.now c.args.ledger.now c.loop-frame.ledger c.visit.new.ledger c.visit.new.kept.items c.loop-frame.stack.items c.in-Ended.answer c.loop-frame.invariant.extends c.loop-frame.invariant.same c.loop-frame.invariant.paid
    (subst (λ (fs : List Frame). SteppedIs (g.G.Shapes.system c.args.groups.now) (g.G.Groups.counting c.args.groups.now) c.args.phi.now c.loop-frame.ledger c.visit.new.ledger c.visit.new.kept.items fs c.visit.new.stack.items (step.Ended c.in-Ended.answer)) (sym c.in-Some.ensures.items)
    (subst (SteppedIs (g.G.Shapes.system c.args.groups.now) (g.G.Groups.counting c.args.groups.now) c.args.phi.now c.loop-frame.ledger c.visit.new.ledger c.visit.new.kept.items (c.pop.new.self.items ++ c.in-Some.frame ∷ []) c.visit.new.stack.items) c.in-Ended.is c.in_ok-visit.ensures))
