use Rattle.std.proofs.Common.{◌≡◌, ◌+◌, suc, true, set, subst, arith}
use Rattle.call_summary.specs.Trims.{AreSet}
use Rattle.call_summary.proofs.Left.{set_none, set_one}
use Rattle.call_summary.proofs.trimming.set_front.Goals as goal

pub loop-index-init : goal.loop-index-init
loop-index-init c = set_none c.args.marks.now.items

pub loop-index-preserved : goal.loop-index-preserved
loop-index-preserved c =
    let next : suc c.loop-index.index ≡ c.loop-index.index + 1 = omega arith in
    subst (λ n. AreSet c.args.marks.now.items (set c.loop-index.marks.items c.loop-index.index true) n) next
    (set_one c.args.marks.now.items c.loop-index.marks.items c.loop-index.index (omega (arith, c.requires)) c.loop-index.invariant)
