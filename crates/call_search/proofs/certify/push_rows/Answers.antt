use Rattle.std.proofs.Common.{arith}
use Rattle.call_search.proofs.Certifying.{rows_next}
use Rattle.call_search.proofs.certify.push_rows.Goals as goal

pub loop-place-preserved : goal.loop-place-preserved
loop-place-preserved c = record {
  rows = rows_next c.args.bits.now c.args.from c.args.width c.args.proc c.loop-place.place c.loop-place.first c.args.out.now.items c.loop-place.out.items c.push.new.self.items c.in_ok-items.items.items c.loop-place.invariant.rows c.loop-place.invariant.first c.in_ok-items.ensures c.in_ok-push.ensures.items;
  first = omega (arith, c.loop-place.invariant.first);
}
