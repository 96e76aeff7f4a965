use Rattle.std.proofs.Common.{length}
use Rattle.lit_region.specs.Contents.{AreInOrder}
use Rattle.lit_region.proofs.tests.kept.Given as goal

abbrev pub invariant-loop-number : goal.invariant-loop-number
invariant-loop-number l = AreInOrder 0 (length l.region.clauses) l.live.items
