use Rattle.std.proofs.Common.{◌≡◌, ◌-◌, ℕ, subst, arith, rules}
use Rattle.unit_refutation.specs.Collecting.{AreCollected, lit_found}
use Rattle.unit_refutation.proofs.CollectLemmas.{found_room, premises_room, asked_push, asked_skip}
use Rattle.unit_refutation.proofs.collecting.collect_by.Goals as goal

pub get-mark-requires : goal.get-mark-requires
get-mark-requires g c =
    found_room c.args.closures.now c.args.clash.group c.args.group (c.loop-place.place - 1) c.loop-place.marks c.lit_at-lit.result c.loop-place.invariant.room c.requires.group (omega arith) c.lit_at-lit.ensures

pub mark_premises-requires : goal.mark_premises-requires
mark_premises-requires g c =
    premises_room (g.T.Tables.system c.args.tables.now) (g.T.Tables.scope c.args.tables.now) (g.T.Tables.rows c.args.tables.now) c.args.closures.now c.args.clash c.requires.asked
    c.loop-place.marks c.args.group (c.loop-place.place - 1) c.loop-place.place c.loop-place.steps.items c.lit_at-lit.result c.in_ok-cause.cause c.requires.group c.lit_at-lit.ensures c.in_ok-cause.ensures c.loop-place.invariant

pub loop-place-preserved-in-Continue-branch-2 : goal.loop-place-preserved-in-Continue-branch-2
loop-place-preserved-in-Continue-branch-2 g c =
    asked_push (g.T.Tables.system c.args.tables.now) (g.T.Tables.scope c.args.tables.now) (g.T.Tables.rows c.args.tables.now) c.args.closures.now c.args.clash c.requires.asked
    c.loop-place.marks c.mark_premises.new.marks c.args.group (c.loop-place.place - 1) c.loop-place.place c.loop-place.steps.items c.push.new.self.items c.lit_at-lit.result c.in_ok-cause.cause
    (omega arith) c.requires.group (omega arith) c.lit_at-lit.ensures c.get-mark.ensures.some c.in_ok-cause.ensures c.mark_premises.ensures.adds c.mark_premises.ensures.marked (search rules) c.loop-place.invariant

pub loop-place-preserved : goal.loop-place-preserved
loop-place-preserved g c =
    asked_skip (g.T.Tables.system c.args.tables.now) (g.T.Tables.scope c.args.tables.now) (g.T.Tables.rows c.args.tables.now) c.args.closures.now c.args.clash c.requires.asked
    c.loop-place.marks c.args.group (c.loop-place.place - 1) c.loop-place.place c.get-mark.result c.loop-place.steps.items c.lit_at-lit.result
    (omega arith) c.requires.group (omega arith) c.lit_at-lit.ensures c.get-mark.ensures.number c.if-mark-eq1.false c.loop-place.invariant

pub returns : goal.returns
returns g c =
    let e : c.loop-place.place ≡ 0 = omega arith in
    subst (λ (n : ℕ). AreCollected (g.T.Tables.system c.args.tables.now) (g.T.Tables.scope c.args.tables.now) c.args.closures.now c.args.clash.group c.args.clash.place
    (lit_found c.args.closures.now c.args.clash.group c.args.clash.place) c.loop-place.marks c.args.group n c.loop-place.steps.items) e c.loop-place.invariant
