use Rattle.std.proofs.Common.{◌-◌, suc, ◌∙◌, ap, sym, arith, List, Bool}
use Rattle.verdict_meaning.specs.Certificates.{bit_at}
use Rattle.call_search.specs.declared.descending.Frame.{Frame}
use Rattle.call_search.proofs.Steps.{first_at}
use Rattle.call_search.proofs.descending.mark_for.Goals as goal

pub returns-then-marks-at : goal.returns-then-marks-at
returns-then-marks-at c = (
  c.number.result - 1,
  ap (λ (bs : List Bool). bit_at bs (suc (c.number.result - 1))) (ap (λ (f : Frame). f.marks) (sym c.frame.view_is) ∙ sym c.as_slice-marks.ensures.value) ∙ c.if-marks-at.true,
  first_at c.args.lits.now c.index-lits-0.result (c.number.result - 1) (let e = c.is_empty.ensures in let f = c.if-is_empty.false in grind arith) c.index-lits-0.is
      (let a = c.var.ensures.var in let b = c.number.ensures.number in let r = c.number.ensures.range.0 in omega arith),
)
