-- A body whose edges fit before slots and places have numbers is the body of a flow graph.
use Rattle.std.proofs.Common.{◌≡◌, ◌↔◌, inl, inr, ℕ, ◌+◌, ◌-◌, ◌*◌, ◌<◌, ◌≤◌, Bool, true, List, [], ◌∷◌, ◌++◌, length, map, take, get_or, nat_eq, Option, Some, None, option_map, is_some, refl, sym, ap, subst, ◌∙◌, arith}
use Rattle.std.specs.Prelude.{slice_get, slice_index_or, if◌then◌else◌}
use Rattle.std.specs.List.{All}
use Rattle.std.proofs.lemmas.Bool.{cases_lt, cases_Bool, eq-eqb, ne_eqb, false≢true}
use Rattle.std.proofs.lemmas.List.{length-map, length-take, take-append-le, get_or_past}
use Rattle.std.proofs.lemmas.List.Elements.{All-nil, All-cons, All-head, All-tail, All-append}
use Rattle.std.proofs.lemmas.List.FromFn.{length-map-range_with_len, get_or-map-range_with_len}
use Rattle.c_tree.specs.declared.position.Place.{Place}
use Rattle.c_tree.specs.declared.position.Place.TheVariants as place
use Rattle.c_types.specs.declared.kinds.SlotType.{SlotType}
use Rattle.c_types.specs.declared.infos.ProcInfo.{ProcInfo}
use Rattle.c_types.specs.Fits.{HasResult, result_count, kinds_of}
use Rattle.flow_graph.specs.declared.action.Edge.{Edge}
use Rattle.flow_graph.specs.declared.raw.RawEdge.{RawEdge}
use Rattle.flow_graph.specs.FlowGraph.{Flow, FlowGraph, flow_of, edges_from}
use Rattle.flow_graph.specs.Fits.{ConstantFits, ActionFits, AreWays, out_of, RetFits, TypeExists, Ascend, IsBody}
use Rattle.flow_graph.specs.Numbers.{Numbering, slots_in, place_number, action_number, edge_number, edges_at, edge_rows, places_of, place_keys, temp_keys}
use Rattle.flow_graph.specs.GraphOf.{numbering, temp_types, body_flow}
use Rattle.flow_graph.proofs.RawFits.{RawEdgeFits, TempsExist}
use Rattle.flow_graph.proofs.RawWays.{same_place, raw_at, AreRawWays, IsControlled}
use Rattle.flow_graph.proofs.NumbersKeys.{slice_get-append_left}
use Rattle.flow_graph.proofs.NumbersPlaces.{IsPlace, same_place-true, same_place-self, places_in, places_out, places_ascend, places_end, length_places, place_within, places_apart, place_with, from_places, to_places, places_few, raw_at_out, place_ways}
use Rattle.flow_graph.proofs.NumbersSlots.{IsKnown, known_slots, temp_types_exist, AreNumbered, slot_kind, slots_apart}
use Rattle.flow_graph.proofs.NumbersActions.{is_test-number, other_side-number, AreKnown, known_by-All, KeepsSlots, action_fits}

-- The edges at a number are those from its place

edges_at_place : (ns : Numbering) (q : ℕ) (p : Place) (es : List RawEdge) → All (λ e. nat_eq (place_number ns e.from) q ≡ same_place e.from p) es
    → edges_at ns es q ≡ map (edge_number ns) (raw_at es p)
edges_at_place ns q p [] all = refl
edges_at_place ns q p (e ∷ es) all =
    let here = All-head (λ x. nat_eq (place_number ns x.from) q ≡ same_place x.from p) e es all in
    let rest = edges_at_place ns q p es (All-tail (λ x. nat_eq (place_number ns x.from) q ≡ same_place x.from p) e es all) in
    elim (cases_Bool (same_place e.from p)) [
      | inl same ↦ rw (here, same, rest) refl
      | inr other ↦ rw (here, other) rest
    ]

All-edges_at : (P : RawEdge → Type 0) (Q : Edge → Type 0) (ns : Numbering) (q : ℕ) (es : List RawEdge) → ((e : RawEdge) → P e → Q (edge_number ns e)) → All P es → All Q (edges_at ns es q)
All-edges_at P Q ns q [] each all = All-nil Q
All-edges_at P Q ns q (e ∷ es) each all =
    let rest = All-edges_at P Q ns q es each (All-tail P e es all) in
    elim (cases_Bool (nat_eq (place_number ns e.from) q)) [
      | inl here ↦ rw here (All-cons Q (edge_number ns e) (edges_at ns es q) (each e (All-head P e es all)) rest)
      | inr other ↦ rw other rest
    ]

ways_number : (ns : Numbering) (es : List RawEdge) → AreRawWays es → AreWays (map (edge_number ns) es)
ways_number ns [] ways = absurd ways
ways_number ns (e ∷ []) ways = is_test-number ns e.action ∙ ways
ways_number ns (e ∷ d ∷ []) ways = other_side-number ns e.action ∙ ap (option_map (action_number ns)) ways
ways_number ns (e ∷ d ∷ c ∷ es) ways = absurd ways

ways_at_place : (ns : Numbering) (es : List RawEdge) (q : ℕ) (p : Place) → edges_at ns es q ≡ map (edge_number ns) (raw_at es p) → AreRawWays (raw_at es p) → AreWays (edges_at ns es q)
ways_at_place ns es q p same ways = subst AreWays (sym same) (ways_number ns (raw_at es p) ways)

-- Rows

row_within : (ns : Numbering) (es : List RawEdge) (n q : ℕ) → q < n → get_or (edge_rows ns es n) q [] ≡ edges_at ns es q
row_within ns es n q within = get_or-map-range_with_len (edges_at ns es) 0 n q q [] within (omega arith)

row_past : (ns : Numbering) (es : List RawEdge) (n q : ℕ) → n ≤ q → get_or (edge_rows ns es n) q [] ≡ []
row_past ns es n q past = get_or_past (edge_rows ns es n) q [] (omega (arith, length-map-range_with_len (edges_at ns es) 0 n))

module _ (vars types : ℕ) (main : Bool) (texts : List ℕ) (es : List RawEdge) (count : ℕ) (is : IsControlled main count es) where
  same_number : (p q : Place) → IsPlace main (place_keys es) p → IsPlace main (place_keys es) q → nat_eq (place_number (numbering vars types main texts es) p) (place_number (numbering vars types main texts es) q) ≡ same_place p q
  same_number p q first second = elim (cases_Bool (same_place p q)) [
    | inl same ↦ eq-eqb (place_number (numbering vars types main texts es) p) (place_number (numbering vars types main texts es) q) (ap (place_number (numbering vars types main texts es)) (same_place-true p q same)) ∙ sym same
    | inr other ↦
        ne_eqb (place_number (numbering vars types main texts es) p) (place_number (numbering vars types main texts es) q)
        (λ e. false≢true (sym other ∙ ap (same_place p) (sym (places_apart vars types main texts es p q first second e)) ∙ same_place-self p))
        ∙ sym other
  ]

  -- the edges at a place's number are those from the place
  pub edges_at_is : (p : Place) (q : ℕ) → IsPlace main (place_keys es) p → place_number (numbering vars types main texts es) p ≡ q
      → edges_at (numbering vars types main texts es) es q ≡ map (edge_number (numbering vars types main texts es)) (raw_at es p)
  edges_at_is p q there number =
      subst (λ (n : ℕ). edges_at (numbering vars types main texts es) es n ≡ map (edge_number (numbering vars types main texts es)) (raw_at es p)) number
      (edges_at_place (numbering vars types main texts es) (place_number (numbering vars types main texts es) p) p es
      (λ i d within. same_number (get_or es i d).from p (from_places main count es is i d within) there))

  before_out : (p : Place) (q : ℕ) → q < length (places_of main es) - 1 → place_number (numbering vars types main texts es) p ≡ q → p ≡ place.Out → ⊥
  before_out place.Out q within number out = omega (arith, number, within)
  before_out place.In q within number out = absurd (cc)
  before_out (place.At n j) q within number out = absurd (cc)
  before_out place.End q within number out = absurd (cc)

  ways_at : (q : ℕ) → q < length (places_of main es) - 1 → AreWays (edges_at (numbering vars types main texts es) es q)
  ways_at q within =
      let p = place_with vars types main texts es q (omega arith) in
      ways_at_place (numbering vars types main texts es) es q p.0 (edges_at_is p.0 q p.1 p.2)
      (place_ways main count es is p.0 p.1 (before_out p.0 q within p.2))

  out_at : edges_at (numbering vars types main texts es) es (length (places_of main es) - 1) ≡ []
  out_at = edges_at_is place.Out (length (places_of main es) - 1) tt refl ∙ ap (map (edge_number (numbering vars types main texts es))) (raw_at_out main count es is.begins)

-- The edges at a number fit, but for constants

abbrev FitsBut : FlowGraph → List SlotType → ℕ → Edge → Type 0
FitsBut g ts n e = (ConstantFits e.action → ActionFits g ts e.action) × (e.to < n)

abbrev numbers_of : ℕ → Bool → List ℕ → ProcInfo → List RawEdge → Numbering
numbers_of types main texts p es = numbering (length p.slots) types main texts es

abbrev slots_of : ℕ → ProcInfo → List RawEdge → List SlotType
slots_of types p es = kinds_of p.slots ++ temp_types types es

record KnowsEdge (g : FlowGraph) (vs : List SlotType) (types : ℕ) (main : Bool) (texts : List ℕ) (es : List RawEdge) (e : RawEdge) : Type 0 where
  slots : AreKnown (IsKnown g types (temp_keys types es)) (slots_in e.action)
  fits : RawEdgeFits g vs texts e
  to : IsPlace main (place_keys es) e.to

module _ (g : FlowGraph) (types : ℕ) (main : Bool) (texts : List ℕ) (p : ProcInfo) (es : List RawEdge) (count : ℕ)
    (all_types : types ≡ 4 + length g.structs) (is : IsControlled main count es)
    (fit : All (RawEdgeFits g (kinds_of p.slots) texts) es) (exist : All (TempsExist g) es) where
  numbered : AreNumbered g (numbers_of types main texts p es) (kinds_of p.slots) (temp_keys types es)
  numbered = record { vars = sym (length-map p.slots (λ v. v.kind)); types = all_types; temps = refl }

  keeps : KeepsSlots (numbers_of types main texts p es) (kinds_of p.slots) (slots_of types p es) (IsKnown g types (temp_keys types es))
  keeps = record {
    kind = slot_kind g (numbers_of types main texts p es) (kinds_of p.slots) (temp_keys types es) numbered;
    apart = slots_apart g (numbers_of types main texts p es) (kinds_of p.slots) (temp_keys types es) numbered;
  }

  fits_number : (e : RawEdge) → KnowsEdge g (kinds_of p.slots) types main texts es e
      → FitsBut g (slots_of types p es) (length (places_of main es)) (edge_number (numbers_of types main texts p es) e)
  fits_number e h = (
    action_fits g (numbers_of types main texts p es) (kinds_of p.slots) (slots_of types p es) (IsKnown g types (temp_keys types es)) keeps e.action h.slots h.fits,
    place_within (length p.slots) types main texts es e.to h.to,
  )

  knows_edges : All (KnowsEdge g (kinds_of p.slots) types main texts es) es
  knows_edges = λ i d within. record {
    slots = known_by-All (IsKnown g types (temp_keys types es)) (slots_in (get_or es i d).action) (known_slots g types es exist i d within);
    fits = fit i d within;
    to = to_places main count es is i d within;
  }

  fits_at : (q : ℕ) → All (FitsBut g (slots_of types p es) (length (places_of main es))) (edges_at (numbers_of types main texts p es) es q)
  fits_at q =
      All-edges_at (KnowsEdge g (kinds_of p.slots) types main texts es) (FitsBut g (slots_of types p es) (length (places_of main es))) (numbers_of types main texts p es) q es fits_number knows_edges

  fits_in_rows : (q : ℕ) → All (FitsBut g (slots_of types p es) (length (places_of main es)))
      (get_or (edge_rows (numbers_of types main texts p es) es (length (places_of main es))) q [])
  fits_in_rows q = elim (cases_lt q (length (places_of main es))) [
    | inl within ↦
        subst (λ (xs : List Edge). All (FitsBut g (slots_of types p es) (length (places_of main es))) xs) (sym (row_within (numbers_of types main texts p es) es (length (places_of main es)) q within)) (fits_at q)
    | inr past ↦
        subst (λ (xs : List Edge). All (FitsBut g (slots_of types p es) (length (places_of main es))) xs) (sym (row_past (numbers_of types main texts p es) es (length (places_of main es)) q past))
        (All-nil (FitsBut g (slots_of types p es) (length (places_of main es))))
  ]

-- Parameters and result

params_first : (n : ℕ) (vs ts : List SlotType) → n ≤ length vs → take (length (take n vs)) (vs ++ ts) ≡ take n vs
params_first n vs ts within =
    let e : length (take n vs) ≡ n = omega (arith, length-take n vs) in
    ap (λ (k : ℕ). take k (vs ++ ts)) e ∙ take-append-le n vs ts within

params_few : (n m : ℕ) (vs : List SlotType) → n ≤ m → length (take n vs) ≤ m
params_few n m vs few = omega (arith, length-take n vs)

ret_fits : (types : ℕ) (main : Bool) (texts : List ℕ) (p : ProcInfo) (es : List RawEdge) (variables : ℕ) → HasResult p variables → p.params ≤ variables
    → RetFits (body_flow types main texts p es) (if is_some p.result then Some (length p.slots - 1) else None)
ret_fits types main texts p es variables has few = by p.result refl
  where
    by : (r : Option SlotType) → p.result ≡ r → RetFits (body_flow types main texts p es) (if is_some r then Some (length p.slots - 1) else None)
    by None is = is
    by (Some t) is =
        let count : length p.slots ≡ variables + result_count (Some t) = rw is at has.count in
        let at : slice_get (kinds_of p.slots) variables ≡ Some t = rw is at has.last in
        let last : length p.slots - 1 ≡ variables = omega (arith, count) in
        let there : slice_get (kinds_of p.slots ++ temp_types types es) (length p.slots - 1) ≡ Some t =
        ap (slice_get (kinds_of p.slots ++ temp_types types es)) last ∙ slice_get-append_left (kinds_of p.slots) (temp_types types es) variables t at in
        (t, is, there, params_few p.params (length p.slots - 1) (kinds_of p.slots) (omega (arith, last, few)))

-- The body

record IsBodyFlow (g : FlowGraph) (f : Flow) : Type 0 where
  params : take (length f.params) f.slots ≡ f.params
  types : All (TypeExists g) f.slots
  ret : RetFits f f.ret
  entry : slice_get f.places 0 ≡ Some place.In
  exit : slice_get f.places (length f.places - 1) ≡ Some place.Out
  ascend : Ascend f.places
  rows : length f.edges ≡ length f.places
  fits : (q : ℕ) → All (λ e. ActionFits g f.slots e.action × (e.to < length f.places)) (slice_index_or f.edges q [])
  ways : (q : ℕ) → q < length f.places - 1 → AreWays (slice_index_or f.edges q [])
  last : slice_index_or f.edges (length f.places - 1) [] ≡ []

body_from_flow : (g : FlowGraph) (k : ℕ) (f : Flow) → flow_of g k ≡ f → IsBodyFlow g f → IsBody g k
body_from_flow g k f same is =
    let here : IsBodyFlow g (flow_of g k) = subst (IsBodyFlow g) (sym same) is in
    record {
      params = here.params;
      types = here.types;
      ret = here.ret;
      entry = here.entry;
      exit = here.exit;
      ascend = here.ascend;
      rows = here.rows;
      fits = λ q i d within. let r = here.fits q i d within in record { action = r.0; to = r.1 };
      ways = here.ways;
      last = here.last;
    }

module _ (g : FlowGraph) (count : ℕ) (main : Bool) (texts : List ℕ) (p : ProcInfo) (es : List RawEdge) (variables : ℕ)
    (is : IsControlled main count es)
    (fit : All (RawEdgeFits g (kinds_of p.slots) texts) es) (exist : All (TempsExist g) es)
    (kinds : All (TypeExists g) (kinds_of p.slots))
    (constants : (q : ℕ) → All (λ e. ConstantFits e.action) (slice_index_or (body_flow (4 + length g.structs) main texts p es).edges q []))
    (has : HasResult p variables) (few : p.params ≤ variables) where
  places_some : 0 < length (places_of main es)
  places_some = omega (arith, length_places main es)

  body_flow_is : IsBodyFlow g (body_flow (4 + length g.structs) main texts p es)
  body_flow_is = record {
    params = params_first p.params (kinds_of p.slots) (temp_types (4 + length g.structs) es) (omega (arith, length-map p.slots (λ v. v.kind), has.count, few));
    types = All-append (TypeExists g) (kinds_of p.slots) (temp_types (4 + length g.structs) es) kinds (temp_types_exist g (4 + length g.structs) es refl exist);
    ret = ret_fits (4 + length g.structs) main texts p es variables has few;
    entry = places_in main es;
    exit = places_out main es;
    ascend = places_ascend main es;
    rows = length-map-range_with_len (edges_at (numbers_of (4 + length g.structs) main texts p es) es) 0 (length (places_of main es));
    fits = λ q i d within.
        let r = fits_in_rows g (4 + length g.structs) main texts p es count refl is fit exist q i d within in
        (r.0 (constants q i d within), r.1);
    ways = λ q within.
        subst AreWays (sym (row_within (numbers_of (4 + length g.structs) main texts p es) es (length (places_of main es)) q (omega arith)))
        (ways_at (length p.slots) (4 + length g.structs) main texts es count is q within);
    last =
        row_within (numbers_of (4 + length g.structs) main texts p es) es (length (places_of main es)) (length (places_of main es) - 1) (omega (arith, places_some))
        ∙ out_at (length p.slots) (4 + length g.structs) main texts es count is;
  }

pub body_flow_fits : (g : FlowGraph) (k count : ℕ) (main : Bool) (texts : List ℕ) (p : ProcInfo) (es : List RawEdge) (variables : ℕ)
    → flow_of g k ≡ body_flow (4 + length g.structs) main texts p es
    → IsControlled main count es
    → All (RawEdgeFits g (kinds_of p.slots) texts) es
    → All (TempsExist g) es
    → All (TypeExists g) (kinds_of p.slots)
    → ((q : ℕ) → All (λ e. ConstantFits e.action) (edges_from g k q))
    → HasResult p variables → p.params ≤ variables
    → IsBody g k
body_flow_fits g k count main texts p es variables same is fit exist kinds constants has few =
    let here : (q : ℕ) → All (λ e. ConstantFits e.action) (slice_index_or (body_flow (4 + length g.structs) main texts p es).edges q []) =
    subst (λ (f : Flow). (q : ℕ) → All (λ e. ConstantFits e.action) (slice_index_or f.edges q [])) same constants in
    body_from_flow g k (body_flow (4 + length g.structs) main texts p es) same (body_flow_is g count main texts p es variables is fit exist kinds here has few)

-- `main` alone has an end
pub body_flow_end : (g : FlowGraph) (k types : ℕ) (main : Bool) (texts : List ℕ) (p : ProcInfo) (es : List RawEdge)
    → flow_of g k ≡ body_flow types main texts p es
    → (slice_get (flow_of g k).places (out_of g k - 1) ≡ Some place.End) ↔ (main ≡ true)
body_flow_end g k types main texts p es same =
    subst (λ (f : Flow). (slice_get f.places (length f.places - 1 - 1) ≡ Some place.End) ↔ (main ≡ true)) (sym same) (places_end main es)

pub body_flow_places : (g : FlowGraph) (k types count : ℕ) (main : Bool) (texts : List ℕ) (p : ProcInfo) (es : List RawEdge)
    → flow_of g k ≡ body_flow types main texts p es
    → IsControlled main count es
    → length (flow_of g k).places ≤ 4 * count + 3
body_flow_places g k types count main texts p es same is =
    subst (λ (f : Flow). length f.places ≤ 4 * count + 3) (sym same) (places_few main count es is)
