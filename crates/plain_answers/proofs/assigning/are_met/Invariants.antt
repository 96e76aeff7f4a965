use Rattle.verdict_meaning.specs.Certificates.{bit_at}
use Rattle.plain_answers.proofs.Assigned.{AreTrueBelow}
use Rattle.plain_answers.proofs.assigning.are_met.Given as goal

abbrev pub invariant-loop-number : goal.invariant-loop-number
invariant-loop-number l = AreTrueBelow (bit_at l.bits) l.table l.number
