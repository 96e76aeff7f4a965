use Rattle.std.proofs.Common.{◌≡◌, ℕ, ◌+◌, ◌-◌, ◌<◌, ◌++◌, length}
use Rattle.verdict_meaning.specs.Certificates.{bit_at}
use Rattle.cert_checker.specs.Tables.{row, line_in}
use Rattle.cert_checker.specs.Finding.{IsFirstBelow}
use Rattle.cert_checker.proofs.RunLemmas.{FalseUpTo}
use Rattle.cert_checker.proofs.runs.first_false.Given as goal

abbrev pub invariant-loop-from : goal.invariant-loop-from
invariant-loop-from l = record {
  first : IsFirstBelow l.bound (FalseUpTo l.table (bit_at (l.phi ++ l.marks.bits.items)) (line_in l.marks.fields l.marks.lines.items l.marks.after) l.from) l.found;
  begins : (k : ℕ) → k + 1 ≡ l.from → l.from < length l.table → (row l.table k).name ≡ (row l.table l.from).name → ⊥;
}

abbrev pub decreases-loop-from : goal.decreases-loop-from
decreases-loop-from l = length l.table - l.from
