use Rattle.std.proofs.Common.{◌≡◌, ◌+◌, length, Some, slice_get, refl, sym, subst, arith}
use Rattle.std.proofs.lemmas.Option.{slice_get_read}
use Rattle.unit_answers.specs.Trails.{Trail}
use Rattle.unit_answers.specs.Settled.{Takes}
use Rattle.unit_answers.proofs.Carrying.{takes_front, takes_more, takes_nothing, takes_whole}
use Rattle.unit_answers.proofs.carry.carry.Goals as goal
use Rattle.unit_answers.proofs.carry.carry.Goals.{in-Some+in_ok-add, in_default}

pub returns-then-number-outer : goal.returns-then-number-outer
returns-then-number-outer c =
    let lower = c.args.lower.now in
    let m = c.lit-item.result in
    let at : slice_get lower c.lits.lit-index ≡ Some m = slice_get_read lower (length lower) c.lits.lit-index m refl (omega arith) c.lit-item.is in
    takes_front c.args.fields c.args.site c.args.call.now lower c.lits.lit-index m c.args.outer c.args.trail.now c.lits.trail c.requires.ascend at c.requires.outer.0
    c.requires.outer.1 (omega (arith, c.if-number-outer.true, c.number.ensures.number, c.var.ensures.var)) c.lits.invariant

pub lits-preserved : goal.lits-preserved
lits-preserved c =
    let lower = c.args.lower.now in
    let m = c.lit-item.result in
    let i = c.lits.lit-index in
    let at : slice_get lower i ≡ Some m = slice_get_read lower (length lower) i m refl (omega arith) c.lit-item.is in
    elim c.match-carried.branch [
      | in-Some+in_ok-add w ↦
          subst (λ (t : Trail). Takes c.args.fields c.args.site c.args.call.now lower (i + 1) c.args.trail.now t) (sym w.trail-is)
          (takes_more c.args.fields c.args.site c.args.call.now lower i m w.in-Some.to c.args.trail.now c.lits.trail w.add.new.self w.in_ok-add.field-0 at
          w.in-Some.ensures w.in_ok-add.ensures c.lits.invariant)
      | in_default w ↦
          subst (λ (t : Trail). Takes c.args.fields c.args.site c.args.call.now lower (i + 1) c.args.trail.now t) (sym w.trail-is)
          (takes_nothing c.args.fields c.args.site c.args.call.now lower i m c.args.trail.now c.lits.trail at w.in_default.ensures c.lits.invariant)
    ]

pub returns : goal.returns
returns c =
    takes_whole c.args.fields c.args.site c.args.call.now c.args.lower.now c.lits.lit-index c.args.trail.now c.lits.trail (omega arith) c.lits.invariant
