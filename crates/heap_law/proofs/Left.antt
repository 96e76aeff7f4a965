-- What is left where no frame is.
use Rattle.std.proofs.Common.{◌≡◌, ◌<◌, ◌&&◌, ◌∙◌, [], zero, suc, ℕ, true, List, length, sym, ap, arith}
use Rattle.std.proofs.lemmas.Bool.{eqb-true, true≢false, and_parts}
use Rattle.c_types.specs.declared.kinds.SlotType.{SlotType}
use Rattle.heap_meaning.specs.declared.states.Object.{Object}
use Rattle.c_types.specs.declared.kinds.SlotType.TheVariants as type
use Rattle.heap_meaning.specs.declared.states.Kind.TheVariants as kind
use Rattle.zo_core.specs.Forms.{bit}
use Rattle.flow_graph.specs.FlowGraph.{FlowGraph, member_type}
use Rattle.heap_meaning.specs.Reads.{object_at, live_at, kind_at, cell, is_allocated}
use Rattle.heap_meaning.specs.Shape.{fits, HeapHasShape}
use Rattle.heap_law.specs.Sums.{total}
use Rattle.heap_law.specs.Rules.{Owning}
use Rattle.heap_law.specs.Markings.{Marking}
use Rattle.heap_law.specs.Owners.{refers, frames_open, field_owns, cell_share, cells_own, HasOneOwner}
use Rattle.heap_law.specs.Kept.{IsLeft, Owns, Walk, IsKept, LeadsTo, NoneLeadsBack}
use Rattle.heap_meaning.proofs.Heap.{live_in_range}
use Rattle.heap_law.proofs.Totals.{total-found}
use Rattle.heap_law.proofs.Bits.{bit_on, both_on}
use Rattle.heap_law.proofs.Values.{holds_type, owner_struct}
use Rattle.heap_law.proofs.Cycles.{below_cycle}

module _ (c : Marking) (h : List Object) (one : HasOneOwner c [] h) where
  -- an object that is left has an owner that is left
  owner_left : (o : ℕ) → (live_at h o && is_allocated (kind_at h o)) ≡ true → (b : ℕ) × ((live_at h b && is_allocated (kind_at h b)) ≡ true) × Owns c.phi h b o
  owner_left o e =
      let was = one o in
      let right : bit (live_at h o && is_allocated (kind_at h o)) ≡ 1 = ap bit e in
      let some : 0 < cells_own c.phi h (frames_open c []) o = omega arith in
      let b = total-found (length h) (λ b. total (length (object_at h b).cells) (λ n. cell_share c.phi h (frames_open c [] b n) o b n)) some in
      let n = total-found (length (object_at h b.0).cells) (λ n. cell_share c.phi h (frames_open c [] b.0 n) o b.0 n) b.1 in
      let p = and_parts (live_at h b.0) _ (bit_on _ n.1) in
      let r = and_parts (field_owns c.phi (kind_at h b.0) n.0) _ p.1 in
      let z = and_parts (refers (cell h b.0 n.0) o) _ r.1 in
      let s = owner_struct c.phi (kind_at h b.0) n.0 r.0 in
      (b.0, both_on (live_at h b.0) (is_allocated (kind_at h b.0)) p.0 (ap is_allocated s.1), record { live = p.0; field = n.0; owning = r.0; holds = z.0 })

  pub left_kept : (o : ℕ) → IsLeft h o → IsKept c.phi h o
  left_kept o left = record {
    left = left;
    below = below_cycle (length h) (λ o. live_at h o && is_allocated (kind_at h o)) (Owns c.phi h)
        (λ o e. live_in_range h o (and_parts (live_at h o) (is_allocated (kind_at h o)) e).0)
        owner_left o (both_on (live_at h o) (is_allocated (kind_at h o)) left.live left.allocated);
  }

struct_fits : (v : ℕ) (t : SlotType) → fits (kind.Struct v) t ≡ true → t ≡ type.StructPtr v
struct_fits v type.Int e = absurd (true≢false (sym e))
struct_fits v type.Char e = absurd (true≢false (sym e))
struct_fits v type.IntPtr e = absurd (true≢false (sym e))
struct_fits v type.CharPtr e = absurd (true≢false (sym e))
struct_fits v (type.StructPtr z) e = ap type.StructPtr (sym (eqb-true v z e))

module _ (g : FlowGraph) (phi : Owning) (h : List Object) (heap : HeapHasShape g h) where
  walk_struct : (k d b z : ℕ) → kind_at h b ≡ kind.Struct z → Walk (Owns phi h) k d b → (s : ℕ) × (kind_at h d ≡ kind.Struct s)
  walk_struct zero d b z kb w = (z, rw w kb)
  walk_struct (suc k) d b z kb w = let p = owner_struct phi (kind_at h d) w.1.field w.1.owning in (p.0, p.1)

  -- a walk over objects is one over their structs
  walk_structs : (k a b s z : ℕ) → kind_at h a ≡ kind.Struct s → kind_at h b ≡ kind.Struct z → Walk (Owns phi h) k a b → Walk (LeadsTo g phi) k s z
  walk_structs zero a b s z ka kb w = struct_is s z (sym ka ∙ ap (λ (x : ℕ). kind_at h x) w ∙ kb)
    where
      struct_is : (s z : ℕ) → kind.Struct s ≡ kind.Struct z → s ≡ z
      struct_is s z e = cc
  walk_structs (suc k) a b s z ka kb w =
      let d = w.0 in
      let next = walk_struct k d b z kb w.2 in
      let typed = holds_type h _ (cell h a w.1.field) d (heap.cells a w.1.field) w.1.holds in
      let fits_d : fits (kind.Struct next.0) (member_type g s w.1.field) ≡ true = rw (next.1, ka) at typed.fits in
      (next.0, record { field = w.1.field; owning = rw ka at w.1.owning; to = struct_fits next.0 _ fits_d }, walk_structs k d b next.0 z next.1 kb w.2)

  pub none_kept : NoneLeadsBack g phi → (o : ℕ) → IsKept phi h o → ⊥
  none_kept none o is =
      let s = owner_struct phi (kind_at h is.below.start) is.below.cycle.1.field is.below.cycle.1.owning in
      none s.0 is.below.around (walk_structs (suc is.below.around) is.below.start is.below.start s.0 s.0 s.1 s.1 is.below.cycle)
