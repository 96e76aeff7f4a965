use Rattle.std.proofs.Common.{◌≢◌, ℕ, ◌<◌, get_or}
use Rattle.std.specs.List.{Contains}
use Rattle.zo_core.specs.Literals.{Literal, opposite}
use Rattle.unit_answers.specs.Trails.{known}
use Rattle.unit_answers.proofs.propagate.are_denied.Given as goal

abbrev pub invariant-loop-other : goal.invariant-loop-other
invariant-loop-other l = (k : ℕ) (d : Literal) → k < l.other-index → get_or l.clause k d ≢ l.lit → Contains (known l.trail) (opposite (get_or l.clause k d))
