use Rattle.std.proofs.Common.{◌+◌, ◌-◌, ◌≤◌, length}
use Rattle.proof_checker.proofs.PivotLemmas.{AreLeft}
use Rattle.proof_checker.proofs.resolvents.pivot.Given as goal

abbrev pub invariant-loop-i : goal.invariant-loop-i
invariant-loop-i l = record { first : l.i ≤ length l.a; second : l.j ≤ length l.b; left : AreLeft l.a l.b l.i l.j }

abbrev pub decreases-loop-i : goal.decreases-loop-i
decreases-loop-i l = (length l.a - l.i) + (length l.b - l.j)
