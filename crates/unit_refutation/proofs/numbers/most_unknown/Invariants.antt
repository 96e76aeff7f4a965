use Rattle.std.proofs.Common.{◌≡◌, ℕ, ◌<◌, ◌≤◌, ◌^◌, Some, slice_get}
use Rattle.unit_answers.specs.declared.findings.Finding.{Finding}
use Rattle.unit_refutation.proofs.numbers.most_unknown.Given as goal

abbrev pub invariant-loop-finding : goal.invariant-loop-finding
invariant-loop-finding l = record {
  most : (k : ℕ) (f : Finding) → k < l.finding-index → slice_get l.findings k ≡ Some f → f.lit.var ≤ l.most;
  small : l.most < 2 ^ 31;
}
