use Rattle.std.proofs.Common.{take}
use Rattle.annotate.specs.Rings.{AddsBack}
use Rattle.annotate.proofs.backwards.add_to_all.Given as goal

abbrev pub invariant-loop-number : goal.invariant-loop-number
invariant-loop-number l = AddsBack l.fn.back.items (take l.number-index l.numbers) l.from l.back.items
