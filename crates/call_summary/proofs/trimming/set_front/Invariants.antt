use Rattle.call_summary.specs.Trims.{AreSet}
use Rattle.call_summary.proofs.trimming.set_front.Given as goal

abbrev pub invariant-loop-index : goal.invariant-loop-index
invariant-loop-index l = AreSet l.fn.marks.items l.marks.items l.index
