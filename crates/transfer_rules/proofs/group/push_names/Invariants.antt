use Rattle.std.proofs.Common.{◌≡◌, ◌++◌, map, take}
use Rattle.transfer_rules.specs.Names.{name_of}
use Rattle.transfer_rules.proofs.group.push_names.Given as goal

abbrev pub invariant-loop-constraint : goal.invariant-loop-constraint
invariant-loop-constraint l = l.out.items ≡ l.initial.out.items ++ map name_of (take l.constraint-index l.found)
