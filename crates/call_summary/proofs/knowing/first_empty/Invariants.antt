use Rattle.std.proofs.Common.{ℕ, ◌≤◌}
use Rattle.call_summary.specs.Knowing.{IsEmptyAt}
use Rattle.call_summary.proofs.knowing.first_empty.Given as goal

abbrev pub invariant-loop-index : goal.invariant-loop-index
invariant-loop-index l = (n : ℕ) → n ≤ l.index → IsEmptyAt l.lines n → ⊥
