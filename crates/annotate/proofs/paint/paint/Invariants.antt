use Rattle.std.proofs.Common.{◌+◌, ◌-◌, length}
use Rattle.annotate.specs.Paint.{unmarked}
use Rattle.annotate.proofs.PaintRows.{IsPainting}
use Rattle.annotate.proofs.paint.paint.Given as goal

abbrev pub invariant-loop-done : goal.invariant-loop-done
invariant-loop-done l = IsPainting l.lists l.fn.marks l.root l.marks l.found.items l.done

abbrev pub decreases-loop-done : goal.decreases-loop-done
decreases-loop-done l = unmarked l.marks + length l.found.items - l.done
