use Rattle.std.proofs.Common.{◌≡◌, ◌++◌, take}
use Rattle.std.specs.List.{flat_map}
use Rattle.transfer_rules.specs.Names.{clauses_if}
use Rattle.transfer_rules.proofs.group.with_constraints.Given as goal

abbrev pub invariant-loop-constraint : goal.invariant-loop-constraint
invariant-loop-constraint l = l.table ≡ l.fn.table ++ flat_map (clauses_if l.scope) (take l.constraint-index l.found)
