use Rattle.std.proofs.Common.{◌≡◌, ℕ, length, Option, Some, refl, arith, subst, slice_get}
use Rattle.std.specs.Prelude.{IfSome}
use Rattle.std.proofs.lemmas.Option.{slice_get_read}
use Rattle.unit_refutation.specs.Lines.{IsWithin, SpellsStep}
use Rattle.unit_refutation.proofs.NumberLemmas.{room_kept}
use Rattle.unit_refutation.proofs.StepLemmas.{stage_more, stage_over, stage_last, roomy_kept}
use Rattle.unit_refutation.proofs.spelling.spell_all.Goals as goal

pub spell-requires-clause-room : goal.spell-requires-clause-room
spell-requires-clause-room c =
    let steps = c.args.steps.now in
    c.loop-step.invariant.room c.loop-step.step-index c.step-item.result (slice_get_read steps (length steps) c.loop-step.step-index c.step-item.result refl (omega arith) c.step-item.is)

pub returns-in-None-clause-spells : goal.returns-in-None-clause-spells
returns-in-None-clause-spells c =
    let steps = c.args.steps.now in
    let i = c.loop-step.step-index in
    let step = c.step-item.result in
    let at : slice_get steps i ≡ Some step = slice_get_read steps (length steps) i step refl (omega arith) c.step-item.is in
    let spells = subst (λ (n : Option ℕ). SpellsStep c.loop-step.numbers step c.loop-step.writer c.spell.new.writer n) c.in-None.is c.in_ok-spell.ensures.spells in
    λ s U h. stage_over s U steps i c.args.writer.now c.loop-step.writer c.spell.new.writer c.loop-step.numbers c.loop-step.numbers step h at (c.loop-step.invariant.stage s U h) spells

pub set-requires : goal.set-requires
set-requires c =
    let steps = c.args.steps.now in
    (c.loop-step.invariant.room c.loop-step.step-index c.step-item.result (slice_get_read steps (length steps) c.loop-step.step-index c.step-item.result refl (omega arith) c.step-item.is)).own

pub loop-step-preserved : goal.loop-step-preserved
loop-step-preserved c =
    let steps = c.args.steps.now in
    let i = c.loop-step.step-index in
    let step = c.step-item.result in
    let at : slice_get steps i ≡ Some step = slice_get_read steps (length steps) i step refl (omega arith) c.step-item.is in
    let spells = subst (λ (n : Option ℕ). SpellsStep c.loop-step.numbers step c.loop-step.writer c.spell.new.writer n) c.in-Some.is c.in_ok-spell.ensures.spells in
    let room = c.loop-step.invariant.room in
    rw c.set.ensures (record {
      within = subst (λ (n : Option ℕ). IfSome n (λ (k : ℕ). IsWithin c.spell.new.writer)) c.in-Some.is c.in_ok-spell.ensures.within;
      room = roomy_kept c.loop-step.numbers step.group c.in-Some.number step.lit steps room;
      kept = λ g l r. room_kept c.loop-step.numbers step.group g step.lit l c.in-Some.number (c.loop-step.invariant.kept g l r);
      stage = λ s U h. stage_more s U steps i c.args.writer.now c.loop-step.writer c.spell.new.writer c.loop-step.numbers step c.in-Some.number h at (room i step at).own (c.loop-step.invariant.stage s U h) spells;
    })

pub returns-clause-spells : goal.returns-clause-spells
returns-clause-spells c =
    λ s U h. stage_last s U c.args.steps.now c.loop-step.step-index c.args.writer.now c.loop-step.writer c.loop-step.numbers (omega arith) c.loop-step.invariant.within (c.loop-step.invariant.stage s U h)
