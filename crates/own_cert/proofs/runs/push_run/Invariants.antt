use Rattle.std.proofs.Common.{◌≡◌, ◌-◌, ◌++◌}
use Rattle.own_cert.specs.Runs.{rows_from}
use Rattle.own_cert.proofs.runs.push_run.Given as goal

abbrev pub invariant-loop-place : goal.invariant-loop-place
invariant-loop-place l = l.rows-inside.items.items ≡ l.initial.rows-inside.items.items ++ rows_from l.proc l.bits-inside.items.items l.first (l.place - l.first)
