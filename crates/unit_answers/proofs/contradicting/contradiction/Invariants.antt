use Rattle.std.proofs.Common.{ℕ, ◌<◌}
use Rattle.unit_answers.specs.Contradictions.{AreConsistent}
use Rattle.unit_answers.specs.Sets.{found, set_at}
use Rattle.unit_answers.proofs.contradicting.contradiction.Given as goal

abbrev pub invariant-loop-group : goal.invariant-loop-group
invariant-loop-group l = (g : ℕ) → g < l.group → AreConsistent (found (set_at l.closures g))
