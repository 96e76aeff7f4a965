use Rattle.std.proofs.Common.{ℕ, ◌<◌}
use Rattle.cert_checker.specs.Finding.{IsWrongRow}
use Rattle.cert_checker.proofs.places.rows_fault.Given as goal

abbrev pub invariant-loop-k : goal.invariant-loop-k
invariant-loop-k g l = (m : ℕ) → m < l.k → IsWrongRow (g.G.Groups.system l.groups) l.group l.rows m → ⊥
