use Rattle.std.proofs.Common.{take}
use Rattle.plain_answers.proofs.Bits.{AreBitsOf}
use Rattle.plain_answers.proofs.assigning.positives.Given as goal

abbrev pub invariant-loop-lit : goal.invariant-loop-lit
invariant-loop-lit l = AreBitsOf l.count (take l.lit-index l.lits) l.bits.items
