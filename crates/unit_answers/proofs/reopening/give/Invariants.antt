use Rattle.std.proofs.Common.{take}
use Rattle.unit_answers.specs.Reopened.{Gives}
use Rattle.unit_answers.proofs.reopening.give.Given as goal

abbrev pub invariant-loop-lit : goal.invariant-loop-lit
invariant-loop-lit l = Gives (take l.lit-index l.given) l.initial.trail l.trail
