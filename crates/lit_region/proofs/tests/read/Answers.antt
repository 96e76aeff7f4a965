use Rattle.std.proofs.Common.{length, arith}
use Rattle.lit_region.proofs.Order.{in_order_at}
use Rattle.lit_region.proofs.tests.read.Goals as goal

pub get-lit-items-requires : goal.get-lit-items-requires
get-lit-items-requires c =
    let live = in_order_at 0 (length c.args.region.now.clauses) c.args.live.now c.loop-at.at-index c.at-item.result c.requires c.loop-at-test.true in
    omega (arith, c.at-item.is)
