use Rattle.std.proofs.Common.{◌∙◌, ◌<◌, length, arith}
use Rattle.std.proofs.lemmas.List.{length-set}
use Rattle.conflict_proof.proofs.NumberLemmas.{leaves_more, no_more_numbers, filled_text, filled_small}
use Rattle.conflict_proof.proofs.numbers.fill.Goals as goal

pub returns-in_err-n-clause-read : goal.returns-in_err-n-clause-read
returns-in_err-n-clause-read c =
    let l = c.loop-i in
    rw c.from_residual.ensures (no_more_numbers (length c.args.numbers.now) l.i c.args.text.now l.rest.now (omega (arith, c.loop-i-test.true)) l.invariant.leaves c.in_err-n.ensures)

pub loop-i-preserved : goal.loop-i-preserved
loop-i-preserved c =
    let l = c.loop-i in
    let low : l.i < length l.numbers = omega (arith, c.loop-i-test.true, l.invariant.len) in
    record {
      len = length-set l.numbers l.i c.in_ok-n.n ∙ l.invariant.len;
      text = filled_text l.numbers c.args.text.now l.rest.now c.in_ok-n.after.now l.i c.in_ok-n.n low l.invariant.text c.in_ok-n.ensures;
      small = filled_small l.numbers l.i c.in_ok-n.n low l.invariant.small c.in_ok-n.ensures.small;
      ends = λ _. c.in_ok-n.ensures.ends;
      leaves = leaves_more (length c.args.numbers.now) l.i c.in_ok-n.n c.args.text.now l.rest.now c.in_ok-n.after.now (omega (arith, c.loop-i-test.true)) l.invariant.leaves c.in_ok-n.ensures;
    }
