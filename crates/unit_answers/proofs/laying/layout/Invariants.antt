use Rattle.std.proofs.Common.{◌≡◌, ℕ, ◌<◌, length}
use Rattle.unit_answers.specs.Layouts.{AreGroupNumbers, no_numbers}
use Rattle.verdict_meaning.specs.Programs.{system_in}
use Rattle.std.specs.Prelude.{slice_index_or}
use Rattle.unit_answers.proofs.laying.layout.Given as goal

abbrev pub invariant-loop-group : goal.invariant-loop-group
invariant-loop-group l = record {
  count : length l.groups.items ≡ l.group;
  each : (g : ℕ) → g < l.group → AreGroupNumbers (system_in l.program) g (slice_index_or l.groups.items g no_numbers);
}
