use Rattle.std.proofs.Common.{◌≡◌, ℕ, ◌<◌, get_or}
use Rattle.zo_core.specs.Literals.{Literal}
use Rattle.proof_checker.proofs.literals.same.Given as goal

abbrev pub invariant-loop-i : goal.invariant-loop-i
invariant-loop-i l = (k : ℕ) (d : Literal) → k < l.i → get_or l.a k d ≡ get_or l.b k d
