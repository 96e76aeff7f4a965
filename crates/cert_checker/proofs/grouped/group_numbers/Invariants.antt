use Rattle.std.proofs.Common.{◌-◌, length}
use Rattle.cert_checker.specs.Grouped.{AreGroupNumbers}
use Rattle.cert_checker.proofs.grouped.group_numbers.Given as goal

abbrev pub invariant-loop-done : goal.invariant-loop-done
invariant-loop-done l = AreGroupNumbers l.program.graph.bodies l.program.groups (length l.program.groups - l.done) l.numbers.items
