use Rattle.std.proofs.Common.{arith, length-take, length-drop}
use Rattle.io_edge.proofs.Given.{Appends-joined}
use Rattle.io_edge.proofs.transfer.write_all.Goals as goal

pub loop-at-preserved : goal.loop-at-preserved
loop-at-preserved g c =
    let put = c.in_ok-at.ensures in
    let fits = simp (length-take, length-drop) at put.count.1 in
    record {
      within = omega (arith, fits);
      given = Appends-joined _ _ _ c.args.bytes.now c.loop-at.at c.in_ok-at.field-0 c.loop-at.invariant.given put.bytes;
      later = omega (arith, put.later);
    }
