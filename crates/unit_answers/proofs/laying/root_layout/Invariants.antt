use Rattle.std.proofs.Common.{◌≡◌, ℕ, length, Some, slice_get}
use Rattle.unit_answers.specs.declared.layouts.Call.{Call}
use Rattle.unit_answers.specs.Layouts.{IsCallAt}
use Rattle.verdict_meaning.specs.Systems.{root}
use Rattle.verdict_meaning.specs.Programs.{system_in}
use Rattle.unit_answers.proofs.laying.root_layout.Given as goal

abbrev pub invariant-loop-group : goal.invariant-loop-group
invariant-loop-group l = record {
  count : length l.calls.items ≡ l.group;
  each : (n : ℕ) (c : Call) → slice_get l.calls.items n ≡ Some c → IsCallAt (system_in l.program) (root (system_in l.program)) n c;
}
