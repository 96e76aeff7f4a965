-- A call has no more arguments than its procedure has slots.
use Rattle.std.proofs.Common.{◌≡◌, ℕ, zero, suc, ◌+◌, ◌*◌, ◌<◌, ◌≤◌, ◌^◌, Bool, true, false, ◌||◌, List, [], ◌∷◌, length, cond, refl, sym, subst, arith, eqb}
use Rattle.std.proofs.lemmas.Bool.{eqb-true}
use Rattle.std.proofs.lemmas.List.Elements.{All-nil, All-cons, All-head, All-tail, recursion_from_All}
use Rattle.std.proofs.lemmas.List.Sums.{get_or-le-sum_by, sum_by-cons}
use Rattle.std.proofs.lemmas.Map.Steps.{length-le_from_distinct_below}
use Rattle.std.proofs.lemmas.Option.{slice_get_within}
use Rattle.std.specs.List.{All, IsDistinct, list_any}
use Rattle.std.specs.Prelude.{sum_by}
use Rattle.c_types.specs.declared.kinds.SlotType.{SlotType}
use Rattle.c_types.specs.Types.{is_pointer}
use Rattle.flow_graph.specs.declared.action.Action.{Action}
use Rattle.flow_graph.specs.declared.action.Action.TheVariants as act
use Rattle.flow_graph.specs.declared.action.Edge.{Edge}
use Rattle.flow_graph.specs.FlowGraph.{Flow, FlowGraph, flow_of, no_flow, edges_from, type_in}
use Rattle.flow_graph.specs.Fits.{is_in, AreDifferent, ArgsFit, ActionFits, EdgeFits, HasPointer, pointer_count, IsFlowGraph}
use Rattle.owner_vars.specs.Unknowns.{field_count}
use Rattle.transfer_rules.specs.Exist.{FewArgs}

differ : true ≡ false → ⊥
differ e = cc

left : (x y : Bool) → (x || y) ≡ false → x ≡ false
left true y e = absurd (differ e)
left false y e = refl

right : (x y : Bool) → (x || y) ≡ false → y ≡ false
right true y e = absurd (differ e)
right false y e = e

others : (u : ℕ) (us : List ℕ) → is_in us u ≡ false → All (λ y. eqb u y ≡ false) us
others u [] e = All-nil (λ y. eqb u y ≡ false)
others u (w ∷ us) e = All-cons (λ y. eqb u y ≡ false) w us (left (eqb u w) (is_in us u) e) (others u us (right (eqb u w) (is_in us u) e))

distinct : (us : List ℕ) → AreDifferent us → IsDistinct eqb us
unfolding IsDistinct
distinct [] h = tt
distinct (u ∷ us) h = (recursion_from_All (λ y. eqb u y ≡ false) us (others u us h.0), distinct us h.1)

below : (n : ℕ) (us : List ℕ) → All (λ u. u < n) us → (q : ℕ) → list_any (eqb q) us ≡ true → q < n
below n [] h q e = absurd (differ (sym e))
below n (u ∷ us) h q e = by (eqb q u) refl e (below n us (All-tail (λ u. u < n) u us h) q)
  where
    B : ℕ → Type 0
    B x = x < n

    by : (b : Bool) → eqb q u ≡ b → (b || list_any (eqb q) us) ≡ true → (list_any (eqb q) us ≡ true → q < n) → q < n
    by true same _ _ = subst B (sym (eqb-true q u same)) (All-head B u us h)
    by false _ more next = next more

slots_below : (ts : List SlotType) (us : List ℕ) (ps : List SlotType) → ArgsFit ts us ps → All (λ u. u < length ts) us
slots_below ts [] ps h = All-nil (λ u. u < length ts)
slots_below ts (u ∷ us) [] h = absurd h
slots_below ts (u ∷ us) (p ∷ ps) h = All-cons (λ u. u < length ts) u us (slice_get_within ts u h.0.type h.0.is) (slots_below ts us ps h.1)

few : (ts : List SlotType) (us : List ℕ) (ps : List SlotType) → ArgsFit ts us ps → AreDifferent us → length us ≤ length ts
few ts us ps fit apart = length-le_from_distinct_below us (length ts) (distinct us apart) (below (length ts) us (slots_below ts us ps fit))

few_in : (g : FlowGraph) (ts : List SlotType) (a : Action) → length ts < 2 ^ 31 → ActionFits g ts a → FewArgs a
few_in g ts (act.Call r callee us) small fits = let le = few ts us (flow_of g callee).params fits.args fits.different in omega arith
few_in g ts a small fits = tt

pub few_slots : (g : FlowGraph) (k : ℕ) → IsFlowGraph g → k < g.bodies → length (flow_of g k).slots < 2 ^ 31
few_slots g k graph body =
    let le = get_or-le-sum_by (λ (f : Flow). length f.slots) g.procs k no_flow (omega (arith, graph.bodies)) in
    omega (arith, le, graph.slot_count)

pub few_args : (g : FlowGraph) (k p : ℕ) → IsFlowGraph g → k < g.bodies → All (λ (e : Edge). FewArgs e.action) (edges_from g k p)
few_args g k p graph body = up (edges_from g k p) ((graph.body k body).fits p)
  where
    F : Edge → Type 0
    F e = FewArgs e.action

    up : (es : List Edge) → All (EdgeFits g k) es → All F es
    up [] h = All-nil F
    up (e ∷ es) h = All-cons F e es (few_in g (flow_of g k).slots e.action (few_slots g k graph body) (All-head (EdgeFits g k) e es h).action) (up es (All-tail (EdgeFits g k) e es h))

-- Pointer fields are few

pointers_le : (ts : List SlotType) → pointer_count ts ≤ length ts
pointers_le [] = omega arith
pointers_le (t ∷ ts) = let h = pointers_le ts in one (is_pointer t) h
  where
    one : (b : Bool) → pointer_count ts ≤ length ts → cond b 1 0 + pointer_count ts ≤ suc (length ts)
    one true h = omega arith
    one false h = omega arith

fields_le : (ss : List (List SlotType)) → All (λ ts. length ts ≤ 64) ss → sum_by pointer_count ss ≤ 64 * length ss
fields_le [] h = omega arith
fields_le (ts ∷ ss) h =
    let P : List SlotType → Type 0 = λ us. length us ≤ 64 in
    let one : length ts ≤ 64 = All-head P ts ss h in
    let le = pointers_le ts in
    let more = fields_le ss (All-tail P ts ss h) in
    let step = sum_by-cons pointer_count ts ss in
    omega arith

pub few_fields : (g : FlowGraph) → IsFlowGraph g → field_count g ≤ 65536
few_fields g graph = let le = fields_le g.structs graph.member_count in let count = graph.struct_count in omega arith

pub pointer_there : (ts : List SlotType) (m : ℕ) → is_pointer (type_in ts m) ≡ true → HasPointer ts m
pointer_there [] zero e = absurd (differ (sym e))
pointer_there [] (suc m) e = absurd (differ (sym e))
pointer_there (t ∷ ts) zero e = record { type = t; is = refl; pointer = e }
pointer_there (t ∷ ts) (suc m) e = let h = pointer_there ts m e in record { type = h.type; is = h.is; pointer = h.pointer }
