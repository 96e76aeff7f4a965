use Rattle.std.proofs.Common.{take, refl, ap, sym, arith, ◌∙◌, add-one}
use Rattle.lit_region.specs.Contents.{Contents, clauses_at, chosen}
use Rattle.lit_region.proofs.Layouts.{used_places, truncated}
use Rattle.lit_region.proofs.Compaction.{begins, next_number, keeps_number, moved, IsCompacted, ends, numbered}
use Rattle.lit_region.proofs.region.Region.compact.Goals as goal

pub loop-at-init : goal.loop-at-init
loop-at-init c =
    let count = sym (used_places _ _ _ _ _ _ _ c.args.self.now c.self.invariant c.self.view_is) ∙ c.self.invariant.places_count in
    record {
      compacting = begins c.self.inside.lits.items c.self.inside.places.items c.args.live.now (rw count at c.requires) (rw c.self.invariant.lits_count at c.self.invariant.laid);
      lits_count = refl;
      places_count = refl;
      lits_room = refl;
      places_room = refl;
      size = refl;
    }

pub copy_within-requires-clause-in_bounds : goal.copy_within-requires-clause-in_bounds
copy_within-requires-clause-in_bounds c =
    let is = rw (sym c.reference.view_is) at c.index-live-at.is in
    let next = next_number _ _ _ _ _ _ _ _ _ c.loop-at.invariant.compacting (omega arith) c.reference.inside.number c.if-number-eq0.false is c.index-place.result.now c.index-place.ensures in
    let within = next.within in
    let size = c.loop-at.invariant.compacting.size in
    let all = c.self.invariant.lits_count in
    let same = c.loop-at.invariant.lits_count in
    omega arith

pub copy_within-requires-clause-dest_in_bounds : goal.copy_within-requires-clause-dest_in_bounds
copy_within-requires-clause-dest_in_bounds c =
    let is = rw (sym c.reference.view_is) at c.index-live-at.is in
    let next = next_number _ _ _ _ _ _ _ _ _ c.loop-at.invariant.compacting (omega arith) c.reference.inside.number c.if-number-eq0.false is c.index-place.result.now c.index-place.ensures in
    let room = next.room in
    let size = c.loop-at.invariant.compacting.size in
    let all = c.self.invariant.lits_count in
    let same = c.loop-at.invariant.lits_count in
    omega arith

pub overflow_cast-used : goal.overflow_cast-used
overflow_cast-used c =
    let is = rw (sym c.reference.view_is) at c.index-live-at.is in
    let next = next_number _ _ _ _ _ _ _ _ _ c.loop-at.invariant.compacting (omega arith) c.reference.inside.number c.if-number-eq0.false is c.index-place.result.now c.index-place.ensures in
    let room = next.room in
    let size = c.loop-at.invariant.compacting.size in
    let all = c.self.invariant.lits_count in
    let within = c.self.invariant.within in
    let small = c.self.invariant.small in
    omega arith

pub overflow_add-used : goal.overflow_add-used
overflow_add-used c =
    let is = rw (sym c.reference.view_is) at c.index-live-at.is in
    let next = next_number _ _ _ _ _ _ _ _ _ c.loop-at.invariant.compacting (omega arith) c.reference.inside.number c.if-number-eq0.false is c.index-place.result.now c.index-place.ensures in
    let room = next.room in
    let size = c.loop-at.invariant.compacting.size in
    let all = c.self.invariant.lits_count in
    let within = c.self.invariant.within in
    let small = c.self.invariant.small in
    omega arith

pub loop-at-preserved : goal.loop-at-preserved
loop-at-preserved c =
    let is = rw (sym c.reference.view_is) at c.index-live-at.is in
    let next = next_number _ _ _ _ _ _ _ _ _ c.loop-at.invariant.compacting (omega arith) c.reference.inside.number c.if-number-eq0.false is c.index-place.result.now c.index-place.ensures in
    let start = c.index-place.result.now.start in
    let len = c.index-place.result.now.len in
    record {
      compacting =
          rw (add-one c.loop-at.at, add-one c.loop-at.kept)
          (keeps_number _ _ _ _ _ _ _ _ _ c.loop-at.invariant.compacting (omega arith) c.reference.inside.number c.if-number-eq0.false is c.index-place.result.now
          (record { start = c.loop-at.used; len = len }) c.index-place.ensures c.copy_within.new.self.items
          (moved c.loop-at.self-inside.lits.items c.copy_within.new.self.items c.loop-at.used start len next.room next.within c.copy_within.ensures.items) refl refl);
      lits_count = c.copy_within.ensures.len ∙ c.loop-at.invariant.lits_count;
      places_count = c.loop-at.invariant.places_count;
      lits_room = c.copy_within.ensures.capacity ∙ c.loop-at.invariant.lits_room;
      places_room = c.loop-at.invariant.places_room;
      size = c.loop-at.invariant.size;
    }

compacted : (c : goal.After-truncate-2)
    → IsCompacted c.self.inside.lits.items c.self.inside.places.items c.args.live.now (take c.loop-at.used c.loop-at.self-inside.lits.items) (take c.loop-at.kept c.loop-at.self-inside.places.items) c.loop-at.live
compacted c = ends _ _ _ _ _ _ _ _ _ c.loop-at.invariant.compacting (omega arith)

pub invariant_of-self : goal.invariant_of-self
invariant_of-self c =
    let all = c.self.invariant.lits_count in
    let places = c.self.invariant.places_count in
    let lits_size = c.loop-at.invariant.compacting.size in
    let places_size = c.loop-at.invariant.compacting.count in
    let lits_same = c.loop-at.invariant.lits_count in
    let places_same = c.loop-at.invariant.places_count in
    let lits_room = c.loop-at.invariant.lits_room in
    let places_room = c.loop-at.invariant.places_room in
    let lits_fit = c.self.invariant.lits_fit in
    let places_fit = c.self.invariant.places_fit in
    let lits_kept = c.truncate.ensures.capacity in
    let places_kept = c.truncate-2.ensures.capacity in
    let size = c.loop-at.invariant.size in
    let within = c.self.invariant.within in
    let small = c.self.invariant.small in
    let smaller = (compacted c).smaller in
    let lits_count = truncated c.loop-at.self-inside.lits.items c.loop-at.used _ _ (omega arith) c.truncate.ensures.len in
    let places_count = truncated c.loop-at.self-inside.places.items c.loop-at.kept _ _ (omega arith) c.truncate-2.ensures.len in
    rw (c.truncate.ensures.items, c.truncate-2.ensures.items)
    (record {
      laid = rw lits_count (compacted c).laid;
      lits_count = lits_count;
      places_count = places_count;
      within = omega arith;
      small = omega arith;
      lits_fit = omega arith;
      places_fit = omega arith;
    })

pub returns-clause-clauses : goal.returns-clause-clauses
returns-clause-clauses c =
    rw (c.truncate.ensures.items, c.truncate-2.ensures.items) ((compacted c).clauses ∙ ap (λ (r : Contents). chosen r.clauses c.args.live.now) c.self.view_is)

pub returns-clause-same : goal.returns-clause-same
returns-clause-same c =
    rw (c.truncate.ensures.items, c.truncate-2.ensures.items) ((compacted c).same ∙ ap (λ (r : Contents). clauses_at r.clauses c.args.live.now) c.self.view_is)

pub returns-clause-in_order : goal.returns-clause-in_order
returns-clause-in_order c =
    rw (returns-clause-clauses c, (compacted c).numbers) (numbered c.args.self.now.clauses c.args.live.now)
