use Rattle.call_summary.proofs.Selecting.{AreSelected}
use Rattle.call_summary.proofs.trimming.selected.Given as goal

abbrev pub invariant-loop-index : goal.invariant-loop-index
invariant-loop-index l = AreSelected l.marks l.lines l.items.items l.numbers.items l.index
