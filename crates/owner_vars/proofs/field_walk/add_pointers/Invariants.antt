use Rattle.std.proofs.Common.{◌≡◌, ◌++◌, take}
use Rattle.owner_vars.specs.Tables.{owners_in, targets_in}
use Rattle.owner_vars.proofs.field_walk.add_pointers.Given as goal

abbrev pub invariant-loop-kind : goal.invariant-loop-kind
invariant-loop-kind l = record {
  owners : l.owners.items ≡ l.fn.owners.items ++ owners_in l.structure (take l.kind-index l.kinds);
  targets : l.targets.items ≡ l.fn.targets.items ++ targets_in (take l.kind-index l.kinds);
}
