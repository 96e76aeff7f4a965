use Rattle.std.proofs.Common.{◌≡◌, ◌<◌, true, length, get_or, subst, sym, rules, arith}
use Rattle.own_cert.specs.Text.{goes_on, run_of}
use Rattle.own_cert.specs.Values.{IsRow}
use Rattle.own_cert.proofs.RunLemmas.{run_on, more_pushed}
use Rattle.own_cert.proofs.runs.more_of_run.Goals as goal

pub loop-next-preserved : goal.loop-next-preserved
loop-next-preserved c =
    let l = c.loop-next in
    let rows = c.args.rows.now in
    let next = c.next-item.result in
    let low : l.n < length rows = omega (arith, c.loop-next-test.true, l.invariant.same) in
    let here = subst (λ k. next ≡ get_or rows k next) (sym l.invariant.same) c.next-item.is in
    let on : true ≡ goes_on l.last.now (run_of next) = search rules in
    let is : IsRow next = search rules in
    record {
      same = omega (arith, l.invariant.same);
      counted = omega (arith, l.invariant.counted, run_on rows l.last.now next l.n low here on);
      is = more_pushed rows l.n next low here l.invariant.is is;
    }
