use Rattle.std.proofs.Common.{sym, subst, arith}
use Rattle.annotate.specs.Walks.{IsWholeOrder}
use Rattle.annotate.proofs.WalkRows.{ends}
use Rattle.annotate.proofs.walk.order.Goals as goal

pub returns : goal.returns
returns c =
    subst (IsWholeOrder c.args.lists.now) (sym c.into_done.ensures)
    (ends c.args.lists.now c.loop-start.walk c.loop-start.invariant.walk c.loop-start.invariant.path (λ q lt. c.loop-start.invariant.seen q (omega arith)))
