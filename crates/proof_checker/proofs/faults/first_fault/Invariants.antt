use Rattle.proof_checker.proofs.LineLemmas.{AreRight}
use Rattle.proof_checker.proofs.faults.first_fault.Given as goal

abbrev pub invariant-loop-k : goal.invariant-loop-k
invariant-loop-k g l = AreRight (g.C.Constraints.system l.constraints) (g.C.Constraints.scope l.constraints) l.lines l.k
