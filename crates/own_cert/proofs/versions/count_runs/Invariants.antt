use Rattle.std.proofs.Common.{◌≡◌, ◌≤◌, ◌+◌, length}
use Rattle.own_cert.specs.Text.{runs_of}
use Rattle.own_cert.proofs.versions.count_runs.Given as goal

abbrev pub invariant-loop-first : goal.invariant-loop-first
invariant-loop-first l = record {
  counted : l.n + length (runs_of l.rest) ≡ length (runs_of l.rows);
  within : l.n + length l.rest ≤ length l.rows;
}

abbrev pub decreases-loop-first : goal.decreases-loop-first
decreases-loop-first l = length l.rest
