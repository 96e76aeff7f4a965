use Rattle.std.proofs.Common.{◌≡◌, ℕ, length, Some, slice_get}
use Rattle.unit_answers.specs.declared.layouts.Call.{Call}
use Rattle.unit_answers.specs.Layouts.{IsCallAt}
use Rattle.verdict_meaning.specs.Programs.{system_in}
use Rattle.unit_answers.proofs.laying.group_layout.Given as goal

abbrev pub invariant-loop-site : goal.invariant-loop-site
invariant-loop-site l = record {
  count : length l.calls.items ≡ l.site;
  each : (n : ℕ) (c : Call) → slice_get l.calls.items n ≡ Some c → IsCallAt (system_in l.program) l.group n c;
}
