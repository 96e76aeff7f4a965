use Rattle.std.proofs.Common.{◌≡◌, length}
use Rattle.own_cert.proofs.tests.one.Given as goal

abbrev pub invariant-loop-place : goal.invariant-loop-place
invariant-loop-place l = length l.rows.items ≡ l.place
