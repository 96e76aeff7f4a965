use Rattle.std.proofs.Common.{◌≡◌, ◌++◌, drop}
use Rattle.zo_core.specs.Truth.{clause_true}
use Rattle.verdict_meaning.specs.Certificates.{bit_at}
use Rattle.cert_checker.proofs.marks.Marks.is_true.Given as goal

abbrev pub invariant-loop-lit : goal.invariant-loop-lit
invariant-loop-lit l = clause_true (bit_at (l.phi ++ l.self.bits.items)) l.lits ≡ clause_true (bit_at (l.phi ++ l.self.bits.items)) (drop l.lit-index l.lits)
