use Rattle.std.proofs.Common.{◌≡◌, take, map}
use Rattle.heap_meaning.specs.Run.{text_object}
use Rattle.heap_meaning.proofs.steps.texts.Given as goal

abbrev pub invariant-loop-number : goal.invariant-loop-number
invariant-loop-number l = l.items.items ≡ map text_object (take l.number l.graph.texts)
