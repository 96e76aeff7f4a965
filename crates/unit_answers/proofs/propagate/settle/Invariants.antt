use Rattle.std.proofs.Common.{◌+◌, ◌*◌, ◌-◌, length}
use Rattle.unit_answers.specs.Propagation.{Forces}
use Rattle.unit_answers.proofs.propagate.settle.Given as goal

abbrev pub invariant-turns : goal.invariant-turns
invariant-turns l = Forces l.table l.initial.trail l.trail

abbrev pub decreases-turns : goal.decreases-turns
decreases-turns l = 2 * l.trail.unknowns + 2 - length l.trail.findings
