use Rattle.std.proofs.Common.{◌≡◌, ◌<◌, ℕ, [], length}
use Rattle.std.specs.Prelude.{slice_index_or}
use Rattle.transfer_rules.specs.Programs.{pointer_slots}
use Rattle.transfer_rules.proofs.index.pointers.Given as goal

abbrev pub invariant-loop-proc : goal.invariant-loop-proc
invariant-loop-proc l = record {
  count : length l.out.items ≡ l.proc;
  each : (k : ℕ) → k < l.proc → slice_index_or l.out.items k [] ≡ pointer_slots l.graph k;
}
