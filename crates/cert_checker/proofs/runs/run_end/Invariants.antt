use Rattle.std.proofs.Common.{◌≡◌, ℕ, ◌<◌, ◌≤◌}
use Rattle.cert_checker.specs.Tables.{row}
use Rattle.cert_checker.proofs.runs.run_end.Given as goal

abbrev pub invariant-loop-k : goal.invariant-loop-k
invariant-loop-k l = (j : ℕ) → l.from ≤ j → j < l.k → (row l.table j).name ≡ (row l.table l.from).name
