use Rattle.std.proofs.Common.{◌≡◌, ◌<◌, ◌≤◌, ℕ, map, take, length}
use Rattle.owner_vars.specs.Unknowns.{unknowns}
use Rattle.transfer_rules.specs.Programs.{group_at}
use Rattle.transfer_rules.proofs.build.numberings.Given as goal

abbrev pub invariant-loop-k : goal.invariant-loop-k
invariant-loop-k l = record {
  numbers : l.items.items ≡ map (unknowns l.graph) (take l.k l.groups);
  fit : (j : ℕ) → j < l.k → length (unknowns l.graph (group_at l.groups j)) ≤ 8388608;
}
