use Rattle.std.proofs.Common.{◌≡◌, ◌<◌, ℕ, [], length}
use Rattle.std.specs.Prelude.{slice_index_or}
use Rattle.transfer_rules.proofs.index.no_lists.Given as goal

abbrev pub invariant-loop-n : goal.invariant-loop-n
invariant-loop-n l = record {
  count : length l.out.items ≡ l.n;
  each : (s : ℕ) → s < l.n → slice_index_or l.out.items s [] ≡ [];
}
