-- The graph of a typed tree keeps what every flow graph keeps.
use Rattle.std.proofs.Common.{◌≡◌, ℕ, ◌+◌, ◌*◌, ◌<◌, ◌≤◌, ◌^◌, Bool, true, false, cond, zero, suc, List, [], ◌∷◌, length, take, sum_by, refl, sym, ap, ◌∙◌, arith, nat_eq, Some, None, slice_get, get_or}
use Rattle.std.specs.Prelude.{map, if◌then◌else◌}
use Rattle.std.specs.List.{All}
use Rattle.std.proofs.lemmas.List.{length-map}
use Rattle.std.proofs.lemmas.Option.{slice_get_within, get_or_from_slice_get}
use Rattle.std.proofs.lemmas.List.Elements.{All-head, All-tail, All-nil, All-map, All-take, All-weaker}
use Rattle.c_tree.specs.declared.tree.Tree.{Tree}
use Rattle.c_tree.specs.Plain.{Stmt}
use Rattle.c_tree.specs.Nodes.{tree_size}
use Rattle.c_tree.specs.View.{tree_view}
use Rattle.c_types.specs.declared.kinds.SlotType.{SlotType}
use Rattle.c_types.specs.declared.infos.SlotInfo.{SlotInfo}
use Rattle.c_types.specs.declared.infos.MemberInfo.{MemberInfo}
use Rattle.c_types.specs.declared.infos.StructInfo.{StructInfo}
use Rattle.c_types.specs.declared.infos.ProcInfo.{ProcInfo}
use Rattle.c_types.specs.declared.typed.Typed.{Typed}
use Rattle.c_types.specs.Types.{is_pointer}
use Rattle.c_types.specs.Items as count
use Rattle.c_types.specs.Items.{proc_infos, limit_passed}
use Rattle.c_types.specs.Declarations.{struct_infos}
use Rattle.c_types.specs.Fits as known
use Rattle.c_types.specs.Fits.{kinds_of, params_of, IsTypedFile, IsTypedBody, size_with}
use Rattle.c_types.proofs.FileIsTyped.{file_is_typed}
use Rattle.flow_graph.specs.declared.action.Edge.{Edge}
use Rattle.flow_graph.specs.FlowGraph.{Flow, FlowGraph, no_flow, flow_of, edges_from}
use Rattle.flow_graph.specs.Fits.{TypeExists, ConstantFits, ConstantsFit, IsExternal, pointer_count, IsFlowGraph}
use Rattle.flow_graph.specs.GraphOf.{type_count, body_of, flow_of_proc, graph_of_parts, graph_of, IsTypedGraph}
use Rattle.flow_graph.proofs.Settings.{IsFlowOf}
use Rattle.flow_graph.proofs.FileFlows.{flows_get, flows_length}
use Rattle.flow_graph.proofs.FileBodies.{body_same, type_exists, element_at, has_body, program, body_is, end_is, structs_same, flow_at}
use Rattle.flow_graph.proofs.FileSizes.{AtEach, sums_follow, sums_below, sum_scaled, flow_places, flow_slots, body_slots, strings_within}

-- the tables of a typed tree
typed_file : (t : Typed) → IsTypedFile (tree_view t.tree) t.structs t.procs t.bodies t.main_proc
typed_file t =
    let limits : limit_passed (struct_infos (tree_view t.tree)) (proc_infos (tree_view t.tree)) ≡ None = rw (t.structs_are, t.procs_are) at t.within_limits in
    rw (t.structs_are, t.procs_are, t.bodies_are, t.main_is) (file_is_typed t.tree t.formed t.well_typed t.main limits)

pointers_same : (n : ℕ) (vs : List SlotInfo) → pointer_count (take n (kinds_of vs)) ≡ count.pointer_count (take n vs)
pointers_same zero vs = refl
pointers_same (suc n) [] = refl
pointers_same (suc n) (v ∷ vs) = by_kind (is_pointer v.kind) (pointer_count (take n (kinds_of vs))) (count.pointer_count (take n vs)) (pointers_same n vs)
  where
    by_kind : (b : Bool) (a c : ℕ) → a ≡ c → cond b 1 0 + a ≡ (if b then c + 1 else c)
    by_kind true a c h = omega (arith, h)
    by_kind false a c h = omega (arith, h)

module _ (t : Tree) (ss : List StructInfo) (ps : List ProcInfo) (bodies main : ℕ) (file : IsTypedFile (tree_view t) ss ps bodies main) where
  abbrev g : FlowGraph
  g = graph_of_parts t ss ps bodies main

  procs_same : length g.procs ≡ length ps
  procs_same = flows_length t (type_count ss) main 0 0 ps

  flow_of_info : (k : ℕ) (p : ProcInfo) → slice_get ps k ≡ Some p → IsFlowOf g k p
  flow_of_info = (program t ss ps bodies main file).procs

  external : (k : ℕ) → bodies ≤ k → k < length g.procs → IsExternal g k
  external k out within =
      let e = element_at ps k (omega (arith, within, procs_same)) in
      let outside = (file.procs k e.element e.is).external out in
      record { result = rw ((flow_of_info k e.element e.is).result) outside.1 }

  kinds_exist : (k : ℕ) (p : ProcInfo) → slice_get ps k ≡ Some p → All (TypeExists g) (kinds_of p.slots)
  kinds_exist k p is =
      All-map (TypeExists g) (λ (v : SlotInfo). v.kind) p.slots
      (All-weaker (λ (v : SlotInfo). known.TypeExists ss v.kind) (λ v. TypeExists g v.kind)
      (λ v. type_exists ss g (structs_same t ss ps bodies main file) v.kind) p.slots (file.procs k p is).slots_exist)

  params_exist : (k : ℕ) → k < length g.procs → All (TypeExists g) (flow_of g k).params
  params_exist k within =
      let e = element_at ps k (omega (arith, within, procs_same)) in
      rw ((flow_of_info k e.element e.is).params) (All-take (TypeExists g) e.element.params (kinds_of e.element.slots) (kinds_exist k e.element e.is))

  members_exist : All (All (TypeExists g)) g.structs
  members_exist =
      All-map (All (TypeExists g)) (λ (s : StructInfo). map (λ m. m.kind) s.members) ss
      (All-weaker (λ (s : StructInfo). All (λ m. known.TypeExists ss m.kind) s.members) (λ s. All (TypeExists g) (map (λ m. m.kind) s.members))
      (λ s h. All-map (TypeExists g) (λ (m : MemberInfo). m.kind) s.members
      (All-weaker (λ (m : MemberInfo). known.TypeExists ss m.kind) (λ m. TypeExists g m.kind) (λ m. type_exists ss g (structs_same t ss ps bodies main file) m.kind) s.members h)) ss file.members_exist)

  members_few : All (λ ts. length ts ≤ 64) g.structs
  members_few =
      All-map (λ (ts : List SlotType). length ts ≤ 64) (λ (s : StructInfo). map (λ m. m.kind) s.members) ss
      (All-weaker (λ (s : StructInfo). length s.members ≤ 64) (λ s. length (map (λ m. m.kind) s.members) ≤ 64)
      (λ s h. omega (arith, h, length-map s.members (λ (m : MemberInfo). m.kind))) ss file.member_count)

  params_few : (k : ℕ) → k < length g.procs → pointer_count (flow_of g k).params ≤ 8
  params_few k within =
      let e = element_at ps k (omega (arith, within, procs_same)) in
      let few = file.param_count k e.element (slice_get_within ps k e.element e.is) in
      rw ((flow_of_info k e.element e.is).params, pointers_same e.element.params e.element.slots) (rw (get_or_from_slice_get ps k e.element e.element e.is) at few)

  -- Sizes

  record IsProc (k : ℕ) (f : Flow) (p : ProcInfo) : Type 0 where
    before : ℕ
    same : f ≡ flow_of g k
    is : flow_of g k ≡ flow_of_proc (type_count ss) (nat_eq k main) before p (body_of t p)

  proc_is : (k : ℕ) (f : Flow) (p : ProcInfo) → slice_get g.procs k ≡ Some f → slice_get ps k ≡ Some p → IsProc k f p
  proc_is k f p at on =
      let h = flows_get t (type_count ss) main 0 0 ps k p on in
      record { before = h.before; same = sym (get_or_from_slice_get g.procs k f no_flow at); is = flow_at t ss ps bodies main file k p on h }

  size_of : ProcInfo → ℕ
  size_of p = size_with p (known.body_of (tree_view t) p)

  places_each : AtEach (λ (f : Flow) p. length f.places ≤ 4 * size_with p (known.body_of (tree_view t) p)) g.procs ps
  places_each k f p at on =
      let r = proc_is k f p at on in
      rw (r.same, ← (body_same t p)) (flow_places g k (type_count ss) (nat_eq k main) r.before p (body_of t p) r.is)

  body_typed : (k : ℕ) (p : ProcInfo) → slice_get ps k ≡ Some p → (s : Stmt) → body_of t p ≡ Some s → IsTypedBody ss ps p s
  body_typed k p on s is = (file.procs k p on).body s (sym (body_same t p) ∙ is)

  slots_each : AtEach (λ (f : Flow) p. length f.slots ≤ 2 * size_with p (known.body_of (tree_view t) p)) g.procs ps
  slots_each k f p at on =
      let r = proc_is k f p at on in
      rw (r.same, ← (body_same t p)) (flow_slots g k (type_count ss) (nat_eq k main) r.before ss ps p (body_of t p) r.is (body_typed k p on))

  main_slots : (f : Flow) (p : ProcInfo) → slice_get g.procs main ≡ Some f → slice_get ps main ≡ Some p → length f.slots < 2 * size_with p (known.body_of (tree_view t) p)
  main_slots f p at on =
      let r = proc_is main f p at on in
      let b = has_body t ss ps bodies main file main file.main_body in
      let same : b.info ≡ p = some_is b.info p (sym b.has ∙ on) in
      let is : body_of t p ≡ Some b.stmt = rw (← same) b.is in
      rw (r.same, ← (body_same t p), is)
      (body_slots g main (type_count ss) (nat_eq main main) r.before ss ps p b.stmt (r.is ∙ ap (flow_of_proc (type_count ss) (nat_eq main main) r.before p) is) (body_typed main p on b.stmt is))
    where
      some_is : (a c : ProcInfo) → Some a ≡ Some c → a ≡ c
      some_is a c e = cc

  place_count : tree_size (tree_view t) ≤ 16777216 → sum_by (λ f. length f.places) g.procs < 2 ^ 27
  place_count small =
      omega (
        arith,
        small,
        file.size,
        sums_follow (λ (f : Flow). length f.places) (λ p. 4 * size_with p (known.body_of (tree_view t) p)) g.procs ps procs_same places_each,
        sum_scaled 4 (λ p. size_with p (known.body_of (tree_view t) p)) ps,
      )

  slot_count : tree_size (tree_view t) ≤ 16777216 → sum_by (λ f. length f.slots) g.procs < 2 ^ 25
  slot_count small =
      let a = element_at g.procs main (omega (arith, file.main_body, file.within, procs_same)) in
      let b = element_at ps main (omega (arith, file.main_body, file.within)) in
      omega (
        arith,
        small,
        file.size,
        sums_below (λ (f : Flow). length f.slots) (λ p. 2 * size_with p (known.body_of (tree_view t) p)) g.procs ps procs_same slots_each main a.element b.element a.is b.is
            (main_slots a.element b.element a.is b.is),
        sum_scaled 2 (λ p. size_with p (known.body_of (tree_view t) p)) ps,
      )

  pub graph_keeps : tree_size (tree_view t) ≤ 16777216 → ((k q : ℕ) → All (λ e. ConstantFits e.action) (edges_from g k q)) → IsFlowGraph g
  graph_keeps small constants =
      let m = element_at ps main (omega (arith, file.main_body, file.within)) in
      let is_main = file.main m.element m.is in
      let of_main = flow_of_info main m.element m.is in
      record {
        bodies = omega (arith, file.within, procs_same);
        main_body = file.main_body;
        main_params = of_main.params ∙ ap (λ n. take n (kinds_of m.element.slots)) is_main.0;
        main_result = of_main.result ∙ is_main.1;
        end = end_is t ss ps bodies main file;
        body = λ k h. body_is t ss ps bodies main file k h (constants k);
        external = external;
        members = members_exist;
        params = params_exist;
        struct_count = omega (arith, structs_same t ss ps bodies main file, file.struct_count);
        member_count = members_few;
        proc_count = omega (arith, procs_same, file.proc_count);
        param_count = params_few;
        place_count = place_count small;
        slot_count = slot_count small;
        text_count = omega (arith, strings_within t ps, file.size, small);
      }

element_or : {X : Type 0} (P : X → Type 0) (xs : List X) (i : ℕ) (d : X) → All P xs → P d → P (get_or xs i d)
element_or P [] i d h p = p
element_or P (x ∷ xs) zero d h p = All-head P x xs h
element_or P (x ∷ xs) (suc i) d h p = element_or P xs i d (All-tail P x xs h) p

constants_at : (g : FlowGraph) → All ConstantsFit g.procs → (k q : ℕ) → All (λ e. ConstantFits e.action) (edges_from g k q)
constants_at g h k q =
    element_or (All (λ (e : Edge). ConstantFits e.action)) (flow_of g k).edges q []
    (element_or ConstantsFit g.procs k no_flow h (All-nil (All (λ (e : Edge). ConstantFits e.action)))) (All-nil (λ (e : Edge). ConstantFits e.action))

-- the law
pub typed_graph_keeps : (t : Typed) (g : FlowGraph) → g ≡ graph_of t → All ConstantsFit g.procs → IsFlowGraph g
typed_graph_keeps t g is constants =
    rw is (graph_keeps t.tree t.structs t.procs t.bodies t.main_proc (typed_file t) t.small (constants_at (graph_of t) (rw is at constants)))

-- what holds of a graph that is built
pub typed_graph : (t : Typed) (g : FlowGraph) → g ≡ graph_of t → IsTypedGraph g
typed_graph t g is = record { typed = t; is = is }
