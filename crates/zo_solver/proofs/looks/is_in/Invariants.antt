use Rattle.std.proofs.Common.{ℕ, ◌-◌, ◌<◌, ◌≤◌, length, get_or}
use Rattle.zo_core.specs.Literals.{Literal}
use Rattle.zo_core.specs.Places.{AllBelow}
use Rattle.zo_solver.proofs.looks.is_in.Given as goal

abbrev pub invariant-loop-low : goal.invariant-loop-low
invariant-loop-low l = record {
  ordered : l.low ≤ l.high;
  within : l.high ≤ length l.lits;
  below : AllBelow l.var l.low l.lits;
  above : (k : ℕ) (d : Literal) → l.high ≤ k → k < length l.lits → l.var ≤ (get_or l.lits k d).var;
}

abbrev pub decreases-loop-low : goal.decreases-loop-low
decreases-loop-low l = l.high - l.low
