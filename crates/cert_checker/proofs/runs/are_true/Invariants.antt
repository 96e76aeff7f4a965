use Rattle.std.proofs.Common.{◌≡◌, ℕ, ◌<◌, ◌≤◌, ◌++◌, true}
use Rattle.zo_core.specs.Truth.{clause_true}
use Rattle.verdict_meaning.specs.Certificates.{bit_at}
use Rattle.cert_checker.specs.Tables.{row}
use Rattle.cert_checker.proofs.runs.are_true.Given as goal

abbrev pub invariant-loop-k : goal.invariant-loop-k
invariant-loop-k l = (j : ℕ) → l.from ≤ j → j < l.k → clause_true (bit_at (l.phi ++ l.marks.bits.items)) (row l.table j).lits ≡ true
