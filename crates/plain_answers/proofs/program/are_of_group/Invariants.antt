use Rattle.std.proofs.Common.{take}
use Rattle.std.specs.List.{All}
use Rattle.plain_answers.specs.Stages.{IsOfGroup}
use Rattle.plain_answers.proofs.program.are_of_group.Given as goal

abbrev pub invariant-loop-number : goal.invariant-loop-number
invariant-loop-number l = All (IsOfGroup l.count) (take l.number l.table)
