-- A call of a procedure with a body.
use Rattle.std.proofs.Common.{◌≡◌, ◌+◌, ◌<◌, ◌≤◌, ◌&&◌, ◌∷◌, ◌∙◌, ℕ, Bool, true, false, List, length, refl, sym, ap, arith, inl, inr, ⊎_elim, eqb, Option, Some, None, slice_get}
use Rattle.std.proofs.lemmas.Bool.{lt-ltb}
use Rattle.c_types.specs.declared.kinds.SlotType.{SlotType}
use Rattle.heap_meaning.specs.declared.values.Value.{Value}
use Rattle.heap_meaning.specs.declared.states.Frame.{Frame}
use Rattle.heap_meaning.specs.declared.states.Object.{Object}
use Rattle.c_types.specs.declared.kinds.SlotType.TheVariants as type
use Rattle.flow_graph.specs.declared.action.Action.TheVariants as act
use Rattle.zo_core.specs.Forms.{bit}
use Rattle.c_types.specs.Types.{is_pointer}
use Rattle.flow_graph.specs.FlowGraph.{FlowGraph, flow_of, has_body, type_in, slot_type}
use Rattle.flow_graph.specs.Fits.{is_in, CallFits, IsFlowGraph}
use Rattle.path_facts.specs.Tables.{FactTables, AreFactsOf}
use Rattle.heap_meaning.specs.Reads.{slot, object_at, live_at, kind_at, is_allocated, cell_type}
use Rattle.heap_meaning.specs.Run.{without, passed}
use Rattle.heap_meaning.specs.Shape.{fits}
use Rattle.heap_law.specs.Sums.{total}
use Rattle.heap_law.specs.Rules.{Marks, Known, arg_at, IsSealed}
use Rattle.heap_law.specs.Markings.{Marking, called}
use Rattle.heap_law.specs.Owners.{instance_of_frame, marks_of, refers, slots_own, slots_open, frames_open, field_owns, cell_share, cells_own, HasOneOwner}
use Rattle.heap_law.specs.Sound.{known}
use Rattle.heap_meaning.proofs.Lists.{by_bool, differ, below_get, at_get, without_at, without_off, length-without}
use Rattle.heap_meaning.proofs.Heap.{live_in_range}
use Rattle.path_facts.proofs.LawLemmas.{at_start}
use Rattle.heap_law.proofs.Totals.{total-agree, total-at, total-zero, total-two}
use Rattle.heap_law.proofs.Bits.{off_right, off_left, on_both, is_off, bit_le}
use Rattle.heap_law.proofs.Values.{owning_struct, fits_same, member_owns, in_range, arg_number, arg_is_in, arg_below, args_count, arg_goes, pointer_goes, front_type, front_short}
use Rattle.heap_law.proofs.Stacks.{HoldsNot, OpenedBy, Opened, GuardedBy, Guarded, SealIsSound}
use Rattle.heap_law.proofs.Heaps.{same_heap, over_goes, cells_agree, Rest}
use Rattle.heap_law.proofs.Guards.{opened_some}
use Rattle.heap_law.proofs.Running.{Here, Way, typed, cell_typed, pointer, filled, base_here, held_guarded, held_fresh, within}
use Rattle.heap_law.proofs.Externs.{Fewer, fewer_holds, fewer_off, fewer_alone}
use Rattle.heap_law.proofs.Passes.{call_splits, passed_at, call_hands}

-- the arguments go to the parameters, which are the first slots
pub record Passing (g : FlowGraph) (k callee : ℕ) (us : List ℕ) : Type 0 where
  pub slots : (j u : ℕ) → arg_at us j ≡ Some u → (s : SlotType) × (slice_get (flow_of g k).slots u ≡ Some s)
  pub params : (j u : ℕ) → arg_at us j ≡ Some u → j < length (flow_of g callee).params
  pub types : (j u : ℕ) → arg_at us j ≡ Some u → is_pointer (slot_type g k u) ≡ true → slot_type g k u ≡ slot_type g callee j
  pub count : length us ≤ length (flow_of g callee).slots

pub passing : (g : FlowGraph) (k callee : ℕ) (r : Option ℕ) (us : List ℕ) → IsFlowGraph g → callee < g.bodies → CallFits g (flow_of g k).slots r callee us → Passing g k callee us
passing g k callee r us graph body fits =
    let front = (graph.body callee body).params in
    let count = args_count (flow_of g k).slots us (flow_of g callee).params fits.args in
    let short = front_short (flow_of g callee).params (flow_of g callee).slots front in
    let small : ((j u : ℕ) → arg_at us j ≡ Some u → j < length (flow_of g callee).params) = λ j u e. rw (← count) (arg_below us j u e) in
    record {
      slots = λ j u e. let p = arg_goes (flow_of g k).slots us (flow_of g callee).params j u fits.args e in (p.type, p.is);
      params = small;
      types = λ j u e pointer.
          let p = arg_goes (flow_of g k).slots us (flow_of g callee).params j u fits.args e in
          let type_u : slot_type g k u ≡ p.type = at_get (flow_of g k).slots u p.type type.Int p.is in
          type_u ∙ pointer_goes p.type (type_in (flow_of g callee).params j) p.goes (rw type_u at pointer) ∙ sym (front_type (flow_of g callee).params (flow_of g callee).slots j front (small j u e));
      count = omega arith;
    }

module _ {g : FlowGraph} {facts : FactTables} {c : Marking} {t : Frame} {below : List Frame} {h : List Object} (here : Here g facts c t below h) (one : HasOneOwner c (t ∷ below) h) where
  abbrev before : Marks
  before = marks_of c t below

  abbrev e : Known
  e = known facts t

  pub enters : {q : ℕ} → (graph : IsFlowGraph g) (facts_are : AreFactsOf g facts) (r : Option ℕ) (callee : ℕ) (us : List ℕ) → Way g facts c t below q (act.Call r callee us) → callee < g.bodies
      → c.has (called c (instance_of_frame c below) t.proc t.place) callee ≡ true
      → Rest facts c (record { proc = callee; place = 0; slots = passed t.slots us (flow_of g callee).slots; waiting = None } ∷ record { proc = t.proc; place = t.place; slots = without t.slots us; waiting = r } ∷ below) h
  enters {q} graph facts_are r callee us way body has =
      let rules = way.holds.rules in
      let ws = without t.slots us in
      let w : Frame = record { proc = t.proc; place = t.place; slots = ws; waiting = r } in
      let ns = passed t.slots us (flow_of g callee).slots in
      let n : Frame = record { proc = callee; place = 0; slots = ns; waiting = None } in
      let is_body : has_body g callee ≡ true = lt-ltb callee g.bodies body in
      let face = c.face (called c (instance_of_frame c below) t.proc t.place) callee in
      let pass = passing g t.proc callee r us graph body way.fits in
      let start = at_start g facts graph facts_are callee body in
      let few : Fewer ws t.slots = λ x. by_bool (is_in us x) (λ i. inr (λ o. ap (λ (z : Value). refers z o) (without_at us t.slots x i))) (λ i. inl (without_off us t.slots x i)) in
      let holds : ((x o : ℕ) → refers (slot ws x) o ≡ true → refers (slot t.slots x) o ≡ true) = fewer_holds ws t.slots few in
      let not_arg : ((x o : ℕ) → refers (slot ws x) o ≡ true → is_in us x ≡ false) = λ x o ref. by_bool (is_in us x) (λ i. differ _ ref (ap (λ (z : Value). refers z o) (without_at us t.slots x i))) (λ i. i) in
      let seal : ((x m o : ℕ) → e.fresh x ≡ false → before.omega x m ≡ true → refers (slot ws x) o ≡ true → IsSealed g c.phi (slot_type g t.proc) before (c.marks (instance_of_frame c below) t.proc q) e face (has_body g callee) us x) = λ x m o nf om ref. rules.call_closed x m (not_arg x o ref) nf om in
      let own_one : ((x o : ℕ) → before.rho x ≡ true → refers (slot t.slots x) o ≡ true → bit (before.rho x && refers (slot t.slots x) o) ≡ 1) = λ x o rh ref. on_both _ _ rh ref in
      let small : ((u : ℕ) → is_in us u ≡ true → u < length t.slots) = λ u i. let p = arg_number us u i in let s = pass.slots p.0 u p.1 in within here u s.0 s.1 in
      let place_0 : 0 < length (flow_of g callee).places = below_get (flow_of g callee).places 0 _ (graph.body callee body).entry in
      let entry = (here.good.places (called c (instance_of_frame c below) t.proc t.place) callee 0 has place_0).entry refl in
      -- what a waiting slot seals, no argument holds
      let guard : ((o : ℕ) → Guarded facts c (w ∷ below) o → HoldsNot ns o) = λ o p j. by_bool (refers (slot ns j) o)
      (λ ref.
      let a = passed_at t.slots us (flow_of g callee).slots j o ref in
      let u = a.0 in
      let in_u = arg_is_in us j u a.1 in
      ⊎_elim
      (λ (by : GuardedBy facts c w below o).
      let x = by.0 in
      let ref_x = holds x o by.1 in
      let u_x : (u ≡ x → ⊥) = λ z. differ {P = ⊥} (is_in us u) in_u (rw z (not_arg x o by.1)) in
      let fresh_case : (e.fresh x ≡ true → refers (slot ns j) o ≡ false) = λ fr. differ _ a.2 ((here.frame.fresh x o fr ref_x).slots u u_x) in
      ⊎_elim fresh_case
      (λ (om : (m : ℕ) × (before.omega x m ≡ true)).
      by_bool (e.fresh x) fresh_case
      (λ nf.
      let s = seal x om.0 o nf om.1 by.1 in
      let st = owning_struct c.phi (slot_type g t.proc x) om.0 ((base_here here).bound x om.0 om.1) in
      let fits_x : fits (kind_at h o) (type.StructPtr st.0) ≡ true = rw st.1 at (typed here x o ref_x).fits in
      let type_u : slot_type g t.proc u ≡ slot_type g t.proc x = fits_same (kind_at h o) st.0 (slot_type g t.proc u) fits_x (typed here u o a.2).fits ∙ sym st.1 in
      let live_u = filled here u o a.2 in
      let rho_u : before.rho u ≡ true = rules.arg j u a.1 (pointer here u o a.2) live_u ∙ s.args j u a.1 type_u live_u in
      let two = total-two (length t.slots) (λ z. bit (before.rho z && refers (slot t.slots z) o)) x u (in_range t.slots x o ref_x) (in_range t.slots u o a.2) u_x in
      let one_x = own_one x o s.owns ref_x in
      let one_u = own_one u o rho_u a.2 in
      let was = one o in
      let le = bit_le (live_at h o && is_allocated (kind_at h o)) in
      absurd (omega arith))) by.2)
      (λ (rest : Guarded facts c below o). differ _ a.2 (held_guarded here o rest u)) p)
      (λ ref. ref) in
      let sealed : ((x m o : ℕ) → e.fresh x ≡ false → before.omega x m ≡ true → refers (slot ws x) o ≡ true → SealIsSound facts c h w below o) = λ x m o nf om ref.
      let ref_x = holds x o ref in
      let s = seal x m o nf om ref in
      let own_x = own_one x o s.owns ref_x in
      let at_x = total-at (length t.slots) (λ z. bit (before.rho z && refers (slot t.slots z) o)) x (in_range t.slots x o ref_x) in
      let was = one o in
      record {
        live = by_bool (live_at h o) (λ z. z) (λ z. let none : bit (live_at h o && is_allocated (kind_at h o)) ≡ 0 = off_left (live_at h o) _ z in absurd (omega arith));
        cells = λ b y lb ref_b.
            let st = owning_struct c.phi (slot_type g t.proc x) m ((base_here here).bound x m om) in
            let fits_x : fits (kind_at h o) (type.StructPtr st.0) ≡ true = rw st.1 at (typed here x o ref_x).fits in
            let cell_is : cell_type g (kind_at h b) y ≡ type.StructPtr st.0 = fits_same (kind_at h o) st.0 _ fits_x (cell_typed here b y o ref_b).fits in
            let owns_b : field_owns c.phi (kind_at h b) y ≡ true = member_owns g c.phi (kind_at h b) y st.0 cell_is (λ z mt. s.fields z y (mt ∙ sym st.1)) in
            let opened : Opened c (t ∷ below) b y = opened_some c (t ∷ below) b y (by_bool (eqb (frames_open c (t ∷ below) b y) 0)
            (λ z.
            let share : cell_share c.phi h (frames_open c (t ∷ below) b y) o b y ≡ 1 = rw (lb, owns_b, ref_b, z) refl in
            let outer = total-at (length h) (λ d. total (length (object_at h d).cells) (λ v. cell_share c.phi h (frames_open c (t ∷ below) d v) o d v)) b (live_in_range h b lb) in
            let inner = total-at (length (object_at h b).cells) (λ v. cell_share c.phi h (frames_open c (t ∷ below) b v) o b v) y (in_range (object_at h b).cells y o ref_b) in
            let le = bit_le (live_at h o && is_allocated (kind_at h o)) in
            absurd (omega arith))
            (λ z. z)) in
            ⊎_elim
            (λ (by : OpenedBy c t below b y).
            inl (by.0, by_bool (is_in us by.0) (λ i. differ _ by.2 (rules.arg_closed by.0 y i (filled here by.0 b by.1))) (λ i. ap (λ (z : Value). refers z b) (without_off us t.slots by.0 i) ∙ by.1), by.2))
            (λ (rest : Opened c below b y). inr rest) opened;
      } in
      record {
        stack = (
          record {
            empty = λ j o em. by_bool (refers (slot ns j) o) (λ ref. let a = passed_at t.slots us (flow_of g callee).slots j o ref in differ _ em (start.empty j (pass.params j a.0 a.1))) (λ ref. ref);
            fresh = λ j o fr ref. differ _ fr (start.fresh j);
          },
          record {
            sealed = sealed;
            guarded = guard;
            fresh = λ j o fr ref. differ _ fr (start.fresh j);
          },
          (
            record {
              empty = λ x o em. fewer_off ws t.slots few x o (here.frame.empty x o em);
              fresh = λ x o fr ref. fewer_alone h ws t.slots few x o (here.frame.fresh x o fr (holds x o ref));
            },
            over_goes facts c h h t w below (same_heap h _) here.over
                (λ o p x. fewer_off ws t.slots few x o (held_guarded here o p x))
                (λ x o fr ref. held_fresh here x o fr (holds x o ref)),
            here.stack,
          ),
        );
        one = λ o.
            let inner = c.marks (called c (instance_of_frame c below) t.proc t.place) callee 0 in
            let hands = call_hands before.rho inner.rho t.slots us (flow_of g callee).slots 0 o pass.count (λ j u is.
            let z : 0 + j ≡ j = omega arith in
            rw z (by_bool (refers (slot t.slots u) o)
            (λ ref.
            let p_u = pointer here u o ref in
            let arg = rules.arg j u is p_u (filled here u o ref) in
            let param = entry.rho j (pass.params j u is) (rw (pass.types j u is p_u) at p_u) in
            let same : inner.rho j ≡ before.rho u = param ∙ sym (arg ∙ ap (λ (v : Bool). v && face.param j) is_body) in
            ap (λ (v : Bool). bit (v && refers (slot t.slots u) o)) same)
            (λ ref. off_right (inner.rho j) _ ref ∙ sym (off_right (before.rho u) _ ref)))) in
            let zeros : slots_own inner ns o ≡ total (length ns) (λ j. bit (inner.rho (0 + j) && refers (slot ns j) o)) = total-agree (length ns) _ _ (λ j lj. let z : 0 + j ≡ j = omega arith in rw z refl) in
            let splits = call_splits before.rho us t.slots o way.fits.different small in
            let kept : slots_own before ws o ≡ total (length t.slots) (λ x. bit (before.rho x && refers (slot ws x) o)) = rw (length-without us t.slots) refl in
            let cells : cells_own c.phi h (frames_open c (n ∷ w ∷ below)) o ≡ cells_own c.phi h (frames_open c (t ∷ below)) o = cells_agree c.phi h (frames_open c (t ∷ below)) (frames_open c (n ∷ w ∷ below)) o (λ b y.
            let none : slots_open inner ns b y ≡ 0 = total-zero (length ns) _ (λ j. is_off (inner.omega j y) (refers (slot ns j) b) (λ ref.
            let a = passed_at t.slots us (flow_of g callee).slots j b ref in entry.omega j y (pass.params j a.0 a.1))) in
            let kept_open : slots_open before ws b y ≡ slots_open before t.slots b y = rw (length-without us t.slots) (total-agree (length t.slots) _ _ (λ x lx.
            by_bool (is_in us x)
            (λ i. off_right (before.omega x y) _ (ap (λ (z : Value). refers z b) (without_at us t.slots x i)) ∙ sym (is_off (before.omega x y) (refers (slot t.slots x) b) (λ ref. rules.arg_closed x y i (filled here x b ref))))
            (λ i. ap (λ (z : Value). bit (before.omega x y && refers z b)) (without_off us t.slots x i)))) in
            omega arith) in
            let was = one o in
            omega arith;
      }
