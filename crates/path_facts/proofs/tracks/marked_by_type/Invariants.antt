use Rattle.std.proofs.Common.{◌≡◌, ℕ, ◌<◌, false, length, get_or}
use Rattle.path_facts.proofs.TrackLemmas.{by_type}
use Rattle.path_facts.proofs.tracks.marked_by_type.Given as goal

abbrev pub invariant-slots : goal.invariant-slots
invariant-slots l = record {
  count : length l.marks.items ≡ l.slot;
  each : (x : ℕ) → x < l.slot → get_or l.marks.items x false ≡ by_type l.graph l.proc x;
}
