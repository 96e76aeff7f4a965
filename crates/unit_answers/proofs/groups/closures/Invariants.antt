use Rattle.unit_answers.specs.Settled.{AreSettled}
use Rattle.verdict_meaning.specs.Programs.{system_in}
use Rattle.unit_answers.specs.Tables.{table_in}
use Rattle.unit_answers.proofs.groups.closures.Given as goal

abbrev pub invariant-loop-group : goal.invariant-loop-group
invariant-loop-group l = AreSettled (system_in l.program) (table_in l.program l.scope) l.group l.sets.items
