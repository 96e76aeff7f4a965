use Rattle.std.proofs.Common.{sym, arith}
use Rattle.c_token.proofs.QuoteLaws.{one_more}
use Rattle.c_token.proofs.quotes.quoted.Goals as goal

pub loop-first-preserved : goal.loop-first-preserved
loop-first-preserved c = record {
  fits = omega (arith, c.split_at.ensures.back_len);
  read = one_more c.args.quote c.in-Some.first.now c.in-Some-unit.value c.in-Some-unit.n c.args.bytes.now c.loop-first.rest.now
      c.in-Some.after.now c.split_at.result.1.now c.loop-first.items.items c.push.new.self.items
      c.in-Some.ensures.cases.0 c.if-first-quote.false (sym c.in-Some-unit.ensures.unit) c.in-Some-unit.ensures.fits.1
      c.loop-first.invariant.fits c.split_at.ensures.back c.in_ok-push.ensures.items c.loop-first.invariant.read;
}
