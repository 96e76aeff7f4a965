use Rattle.std.proofs.Common.{length, reverse}
use Rattle.annotate.proofs.RingRows.{ArePaintedTo}
use Rattle.annotate.proofs.rings.rings.Given as goal

abbrev pub invariant-loop-root : goal.invariant-loop-root
invariant-loop-root l = ArePaintedTo l.lists l.marks.items (reverse l.left.items)

abbrev pub decreases-loop-root : goal.decreases-loop-root
decreases-loop-root l = length l.left.items
