use Rattle.std.proofs.Common.{take}
use Rattle.std.specs.List.{Contains}
use Rattle.annotate.specs.Paint.{Marks}
use Rattle.annotate.proofs.paint.mark_all.Given as goal

abbrev pub invariant-loop-number : goal.invariant-loop-number
invariant-loop-number l = Marks l.fn.marks l.fn.found.items l.mark (Contains (take l.number-index l.numbers)) l.marks l.found.items
