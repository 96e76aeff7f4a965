use Rattle.std.proofs.Common.{◌≡◌, ℕ, ◌<◌, List, get_or}
use Rattle.zo_core.specs.Literals.{Literal}
use Rattle.proof_checker.proofs.literals.has_clause.Given as goal

abbrev pub invariant-loop-clause : goal.invariant-loop-clause
invariant-loop-clause l = (k : ℕ) (d : List Literal) → k < l.clause-index → get_or l.clauses k d ≡ l.lits → ⊥
