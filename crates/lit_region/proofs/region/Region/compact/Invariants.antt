use Rattle.std.proofs.Common.{◌≡◌}
use Rattle.std.specs.Vec.{vec_len, vec_capacity}
use Rattle.lit_region.proofs.Compaction.{IsCompacting}
use Rattle.lit_region.proofs.region.Region.compact.Given as goal

abbrev pub invariant-loop-at : goal.invariant-loop-at
invariant-loop-at l = record {
  compacting : IsCompacting l.initial.self-inside.lits.items l.initial.self-inside.places.items l.initial.live l.self-inside.lits.items l.self-inside.places.items l.live l.at l.used l.kept;
  lits_count : vec_len l.self-inside.lits ≡ vec_len l.initial.self-inside.lits;
  places_count : vec_len l.self-inside.places ≡ vec_len l.initial.self-inside.places;
  lits_room : vec_capacity l.self-inside.lits ≡ vec_capacity l.initial.self-inside.lits;
  places_room : vec_capacity l.self-inside.places ≡ vec_capacity l.initial.self-inside.places;
  size : l.self-inside.size ≡ l.initial.self-inside.size;
}
