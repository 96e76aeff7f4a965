use Rattle.std.proofs.Common.{◌≡◌, take, map}
use Rattle.cert_checker.specs.Grouped.{called}
use Rattle.cert_checker.proofs.grouped.callees_of.Given as goal

abbrev pub invariant-loop-number : goal.invariant-loop-number
invariant-loop-number l = l.items.items ≡ take l.number (called l.program.graph l.program.groups l.group)
