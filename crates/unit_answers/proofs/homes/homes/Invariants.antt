use Rattle.std.proofs.Common.{◌≡◌, ℕ, ◌+◌, ◌<◌, ◌≤◌, drop, length}
use Rattle.std.specs.Prelude.{slice_index}
use Rattle.verdict_meaning.specs.Programs.{group_of}
use Rattle.unit_answers.proofs.homes.homes.Given as goal

abbrev pub invariant-loop-group : goal.invariant-loop-group
invariant-loop-group l = record {
  within : l.group ≤ length l.groups;
  count : length l.homes.items ≡ l.bodies;
  each : (k : ℕ) → k < l.bodies → slice_index l.homes.items k ≡ l.group + group_of (drop l.group l.groups) k;
}

abbrev pub decreases-loop-group : goal.decreases-loop-group
decreases-loop-group l = l.group
