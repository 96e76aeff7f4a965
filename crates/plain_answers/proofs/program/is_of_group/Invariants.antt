use Rattle.std.proofs.Common.{take}
use Rattle.plain_answers.specs.Stages.{AreOfGroup}
use Rattle.plain_answers.proofs.program.is_of_group.Given as goal

abbrev pub invariant-loop-lit : goal.invariant-loop-lit
invariant-loop-lit l = AreOfGroup l.count (take l.lit-index l.lits)
