use Rattle.std.proofs.Common.{ℕ, ◌<◌, get_or}
use Rattle.zo_core.specs.Literals.{Literal}
use Rattle.verdict_meaning.specs.Derivations.{at_site}
use Rattle.proof_checker.proofs.CarryLemmas.{IsCarried}
use Rattle.proof_checker.proofs.instances.are_carried.Given as goal

abbrev pub invariant-loop-i : goal.invariant-loop-i
invariant-loop-i g l = (k : ℕ) (d : Literal) → k < l.i → IsCarried (at_site (g.C.Constraints.system l.constraints) l.group l.site) (get_or l.from k d) (get_or l.lits k d)
