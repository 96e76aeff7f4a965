use Rattle.std.proofs.Common.{◌≡◌, ℕ, ◌+◌, ◌-◌, ◌/◌, ◌<◌, ◌≤◌, length, sym, ◌∙◌, ap, arith}
use Rattle.zo_core.specs.Literals.{Literal}
use Rattle.zo_core.proofs.PlaceLemmas.{below_from}
use Rattle.zo_solver.proofs.Finding.{above_from, found, not_found}
use Rattle.zo_solver.proofs.looks.is_in.Goals as goal

pub loop-low-preserved-then-number-var : goal.loop-low-preserved-then-number-var
loop-low-preserved-then-number-var c =
    let i = c.loop-low.invariant in
    let middle : ℕ = c.loop-low.low + (c.loop-low.high - c.loop-low.low) / 2 in
    let within = i.within in
    let m_in : middle < c.loop-low.high = omega arith in
    let less : c.index-lits-middle.result.var < c.number-var.result = omega arith in
    record {
      ordered = omega arith;
      within = i.within;
      below = λ k d lt. below_from 0 c.number-var.result c.args.lits.now middle c.index-lits-middle.result c.requires (omega arith) (sym c.index-lits-middle.is) less k d (omega arith);
      above = i.above;
    }

pub loop-low-preserved : goal.loop-low-preserved
loop-low-preserved c =
    let i = c.loop-low.invariant in
    let middle : ℕ = c.loop-low.low + (c.loop-low.high - c.loop-low.low) / 2 in
    let within = i.within in
    let m_in : middle < c.loop-low.high = omega arith in
    let up : c.number-var.result ≤ c.index-lits-middle.result.var = omega arith in
    record {
      ordered = omega arith;
      within = omega arith;
      below = i.below;
      above = λ k d le lt. above_from 0 c.number-var.result c.args.lits.now middle c.index-lits-middle.result c.requires (sym c.index-lits-middle.is) up k d (omega arith) lt;
    }

pub returns-then-low-lits : goal.returns-then-low-lits
returns-then-low-lits c =
    let v : c.number-var.result ≡ c.args.lit.var = c.number-var.ensures.number ∙ c.var.ensures.var in
    let all : c.loop-low.low ≡ length c.args.lits.now = c.if-low-lits.true in
    sym (not_found c.args.lit c.args.lits.now (rw (v, all) at c.loop-low.invariant.below))

pub returns : goal.returns
returns c =
    let v : c.number-var.result ≡ c.args.lit.var = c.number-var.ensures.number ∙ c.var.ensures.var in
    let ordered = c.loop-low.invariant.ordered in
    let within = c.loop-low.invariant.within in
    let here : c.loop-low.low < length c.args.lits.now = omega arith in
    let up = c.loop-low.invariant.above c.loop-low.low c.index-lits-low.result (omega arith) here in
    let is = ap (λ (x : Literal). x.var) c.index-lits-low.is in
    c.eq.ensures ∙ sym (found 0 c.args.lit c.args.lits.now c.loop-low.low c.index-lits-low.result c.requires here (rw v at c.loop-low.invariant.below) (omega arith) (sym c.index-lits-low.is))
