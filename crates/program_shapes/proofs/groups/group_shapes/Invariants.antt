use Rattle.verdict_meaning.specs.Systems.{System}
use Rattle.unit_answers.specs.Layouts.{IsLayoutOf}
use Rattle.program_shapes.proofs.Sums.{AreTablesOf}
use Rattle.program_shapes.proofs.groups.group_shapes.Given as goal

abbrev pub invariant-loop-numbers : goal.invariant-loop-numbers
invariant-loop-numbers l = (s : System) → IsLayoutOf s l.layout → AreTablesOf s l.numbers-index l.shapes.items
