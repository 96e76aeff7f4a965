-- The procedures of the graph of a typed file.
use Rattle.std.proofs.Common.{◌≡◌, ℕ, ◌+◌, ◌-◌, ◌<◌, ◌≤◌, ◌↔◌, Bool, true, zero, suc, List, [], ◌∷◌, length, map, refl, sym, ap, ◌∙◌, arith, nat_eq, Option, Some, None, is_some, IfSome, option_map, option_and_then, slice_get, unwrap_or}
use Rattle.std.proofs.Math.Nat.{zero-add}
use Rattle.std.proofs.lemmas.List.{length-map}
use Rattle.std.specs.List.{All}
use Rattle.std.proofs.lemmas.Bool.{eqb-true, eq-eqb}
use Rattle.std.proofs.lemmas.Option.{slice_get-map, slice_get_within, get_or_from_slice_get}
use Rattle.std.proofs.lemmas.List.Elements.{All-map, All-weaker}
use Rattle.c_tree.specs.declared.tree.Tree.{Tree}
use Rattle.c_tree.specs.declared.tree.ProcItem.{ProcItem}
use Rattle.c_tree.specs.Plain.{Stmt}
use Rattle.c_tree.specs.Nodes.{stmt_count, stmt_nodes}
use Rattle.c_tree.specs.View.{stmt_view, proc_view, tree_view}
use Rattle.c_types.specs.declared.kinds.SlotType.{SlotType}
use Rattle.c_types.specs.declared.kinds.SlotType.TheVariants as type
use Rattle.c_types.specs.declared.infos.SlotInfo.{SlotInfo}
use Rattle.c_types.specs.declared.infos.StructInfo.{StructInfo}
use Rattle.c_types.specs.declared.infos.NodeInfo.{NodeInfo}
use Rattle.c_types.specs.declared.infos.ProcInfo.{ProcInfo}
use Rattle.c_types.specs.Fits as known
use Rattle.c_types.specs.Fits.{kinds_of, params_of, body_with, result_count, HasResult, IsTypedBody, IsTypedFile}
use Rattle.flow_graph.specs.declared.raw.RawEdge.{RawEdge}
use Rattle.flow_graph.specs.FlowGraph.{Flow, FlowGraph, no_flow, flow_of, edges_from}
use Rattle.flow_graph.specs.Fits.{TypeExists, ConstantFits, IsBody, out_of}
use Rattle.c_tree.specs.declared.position.Place.TheVariants as place
use Rattle.flow_graph.specs.Parts.{type_at}
use Rattle.flow_graph.specs.Strings.{string_numbers, strings}
use Rattle.flow_graph.specs.Edges.{body_edges}
use Rattle.flow_graph.specs.GraphOf.{type_count, member_types, body_flow, flow_of_proc, body_of, strings_of, all_strings, graph_of_parts}
use Rattle.flow_graph.proofs.Settings.{IsProgram}
use Rattle.flow_graph.proofs.FileFlows.{HasFlow, flows_get, flows_length, texts_within}
use Rattle.flow_graph.proofs.NumbersBody.{body_flow_fits, body_flow_end}
use Rattle.flow_graph.proofs.Control.{body_controlled}
use Rattle.flow_graph.proofs.ActionFitsStmts.{body_fits}
use Rattle.flow_graph.proofs.TempsKeys.{temps_exist}

-- the body of a procedure is that of the tree as it is seen
body_item : (o : Option ProcItem) → option_and_then (λ (i : ProcItem). option_map stmt_view i.body) o ≡ option_and_then (λ i. i.body) (option_map proc_view o)
body_item None = refl
body_item (Some i) = refl

pub body_same : (t : Tree) (p : ProcInfo) → body_of t p ≡ known.body_of (tree_view t) p
body_same t p = body_item (slice_get t.procs p.item) ∙ ap (option_and_then (λ i. i.body)) (sym (slice_get-map proc_view t.procs p.item))

pub type_exists : (ss : List StructInfo) (g : FlowGraph) → length g.structs ≡ length ss → (t : SlotType) → known.TypeExists ss t → TypeExists g t
type_exists ss g same type.Int h = tt
type_exists ss g same type.Char h = tt
type_exists ss g same type.IntPtr h = tt
type_exists ss g same type.CharPtr h = tt
type_exists ss g same (type.StructPtr s) h = omega (arith, same, h)

-- an element within a list
pub record HasElement {X : Type 0} (xs : List X) (k : ℕ) : Type 0 where
  pub element : X
  pub is : slice_get xs k ≡ Some element

pub element_at : {X : Type 0} (xs : List X) (k : ℕ) → k < length xs → HasElement xs k
element_at [] k h = absurd (omega (arith, h))
element_at (x ∷ xs) zero h = record { element = x; is = refl }
element_at (x ∷ xs) (suc k) h =
    let r = element_at xs k (omega (arith, h)) in
    record { element = r.element; is = r.is }

kind_of_node : (ss : List StructInfo) (g : FlowGraph) (is : List NodeInfo) → length g.structs ≡ length ss → All (known.KindExists ss) is → (n : ℕ) → TypeExists g (type_at is n)
kind_of_node ss g [] same h n = tt
kind_of_node ss g (i ∷ is) same h zero = by_kind i.kind (h 0 i (omega arith))
  where
    by_kind : (o : Option SlotType) → IfSome o (known.TypeExists ss) → TypeExists g (unwrap_or o type.Int)
    by_kind None k = tt
    by_kind (Some t) k = type_exists ss g same t k
kind_of_node ss g (i ∷ is) same h (suc n) = kind_of_node ss g is same (λ k d l. h (suc k) d (omega (arith, l))) n

flow_params : (types : ℕ) (main : Bool) (before : ℕ) (p : ProcInfo) (o : Option Stmt) → (flow_of_proc types main before p o).params ≡ params_of p
flow_params types main before p None = refl
flow_params types main before p (Some s) = refl

flow_result : (types : ℕ) (main : Bool) (before : ℕ) (p : ProcInfo) (o : Option Stmt) → (flow_of_proc types main before p o).result ≡ p.result
flow_result types main before p None = refl
flow_result types main before p (Some s) = refl

record IsSomeBody (o : Option Stmt) : Type 0 where
  pub stmt : Stmt
  pub is : o ≡ Some stmt

some_body : (o : Option Stmt) → is_some o ≡ true → IsSomeBody o
some_body None h = absurd (cc)
some_body (Some s) h = record { stmt = s; is = refl }

-- the procedure with number k, which has a body
pub record HasBody (t : Tree) (ss : List StructInfo) (ps : List ProcInfo) (bodies main k : ℕ) : Type 0 where
  pub info : ProcInfo
  pub has : slice_get ps k ≡ Some info
  pub stmt : Stmt
  pub is : body_of t info ≡ Some stmt
  pub typed : IsTypedBody ss ps info stmt
  pub kinds : All (λ v. known.TypeExists ss v.kind) info.slots
  pub before : ℕ
  pub room : before + length (strings (stmt_nodes stmt)) ≤ length (all_strings t ps)
  pub flow : flow_of (graph_of_parts t ss ps bodies main) k
      ≡ body_flow (4 + length (member_types ss)) (nat_eq k main) (string_numbers before (stmt_nodes stmt)) info (body_edges (nat_eq k main) info.nodes stmt)

flow_with : (f : Flow) (n m : ℕ) (main : Bool) (before : ℕ) (p : ProcInfo) (o : Option Stmt) (s : Stmt) → f ≡ flow_of_proc (4 + n) main before p o → o ≡ Some s → n ≡ m
    → f ≡ body_flow (4 + m) main (string_numbers before (stmt_nodes s)) p (body_edges main p.nodes s)
flow_with f n m main before p o s e is same =
    e ∙ ap (flow_of_proc (4 + n) main before p) is
    ∙ ap (λ l. body_flow (4 + l) main (string_numbers before (stmt_nodes s)) p (body_edges main p.nodes s)) same

room_of : (before : ℕ) (o : Option Stmt) (s : Stmt) → o ≡ Some s → (total : ℕ) → before + length (strings_of o) ≤ 0 + total → before + length (strings (stmt_nodes s)) ≤ total
room_of before o s is total h = omega (arith, h, ap (λ x. length (strings_of x)) is)

module _ (t : Tree) (ss : List StructInfo) (ps : List ProcInfo) (bodies main : ℕ) (file : IsTypedFile (tree_view t) ss ps bodies main) where
  abbrev g : FlowGraph
  g = graph_of_parts t ss ps bodies main

  pub structs_same : length (member_types ss) ≡ length ss
  structs_same = length-map ss (λ (s : StructInfo). map (λ m. m.kind) s.members)

  pub flow_at : (k : ℕ) (p : ProcInfo) → slice_get ps k ≡ Some p → (h : HasFlow t (type_count ss) main 0 g.procs (0 + length (all_strings t ps)) k p)
      → flow_of g k ≡ flow_of_proc (type_count ss) (nat_eq k main) h.before p (body_of t p)
  flow_at k p is h = get_or_from_slice_get g.procs k (flow_of_proc (type_count ss) (nat_eq k main) h.before p (body_of t p)) no_flow
      (h.is ∙ ap (λ n. Some (flow_of_proc (type_count ss) (nat_eq n main) h.before p (body_of t p))) (zero-add k))

  pub has_body : (k : ℕ) → k < bodies → HasBody t ss ps bodies main k
  has_body k h =
      let e = element_at ps k (omega (arith, h, file.within)) in
      let f = flows_get t (type_count ss) main 0 0 ps k e.element e.is in
      let proc = file.procs k e.element e.is in
      let b = some_body (body_of t e.element) (rw (body_same t e.element) (proc.bodied h)) in
      record {
        info = e.element;
        has = e.is;
        stmt = b.stmt;
        is = b.is;
        typed = proc.body b.stmt (sym (body_same t e.element) ∙ b.is);
        kinds = proc.slots_exist;
        before = f.before;
        room = room_of f.before (body_of t e.element) b.stmt b.is (length (all_strings t ps)) f.room;
        flow = flow_with (flow_of g k) (length ss) (length (member_types ss)) (nat_eq k main) f.before e.element (body_of t e.element) b.stmt
            (flow_at k e.element e.is f) b.is (sym structs_same);
      }

  pub program : IsProgram g ss ps
  program = record {
    structs = refl;
    procs = λ k p is. let f = flows_get t (type_count ss) main 0 0 ps k p is in record {
      exists = omega (arith, flows_length t (type_count ss) main 0 0 ps, slice_get_within ps k p is);
      params = ap (λ (f : Flow). f.params) (flow_at k p is f) ∙ flow_params (type_count ss) (nat_eq k main) f.before p (body_of t p);
      result = ap (λ (f : Flow). f.result) (flow_at k p is f) ∙ flow_result (type_count ss) (nat_eq k main) f.before p (body_of t p);
    };
  }

  main_result : (k : ℕ) (p : ProcInfo) → slice_get ps k ≡ Some p → nat_eq k main ≡ true → p.result ≡ Some type.Int
  main_result k p is same = (file.main p (ap (slice_get ps) (sym (eqb-true k main same)) ∙ is)).1

  pub body_is : (k : ℕ) → k < bodies → ((q : ℕ) → All (λ e. ConstantFits e.action) (edges_from g k q)) → IsBody g k
  body_is k h constants =
      let b = has_body k h in
      let is_main : Bool = nat_eq k main in
      let texts : List ℕ = string_numbers b.before (stmt_nodes b.stmt) in
      let es : List RawEdge = body_edges is_main b.info.nodes b.stmt in
      let result = b.typed.result in
      let count = length-map b.info.slots (λ (v : SlotInfo). v.kind) in
      body_flow_fits g k (stmt_count b.stmt) is_main texts b.info es b.typed.variables b.flow (body_controlled is_main b.info.nodes b.stmt)
      (body_fits g (body_with ss ps b.info b.typed.variables) b.info.result texts is_main b.stmt program
      (λ n at u is. omega (arith, texts_within b.before (stmt_nodes b.stmt) n at u is, b.room)) b.typed.fits (omega (arith, count, result.count)) result.last
      (main_result k b.info b.has))
      (temps_exist g is_main b.info.nodes b.stmt (kind_of_node ss g b.info.nodes structs_same b.typed.kinds_exist))
      (All-map (TypeExists g) (λ (v : SlotInfo). v.kind) b.info.slots
      (All-weaker (λ (v : SlotInfo). known.TypeExists ss v.kind) (λ v. TypeExists g v.kind) (λ v. type_exists ss g structs_same v.kind) b.info.slots b.kinds))
      constants result b.typed.params

  pub end_is : (k : ℕ) → k < bodies → (slice_get (flow_of g k).places (out_of g k - 1) ≡ Some place.End) ↔ (k ≡ main)
  end_is k h =
      let b = has_body k h in
      let e = body_flow_end g k (4 + length (member_types ss)) (nat_eq k main) (string_numbers b.before (stmt_nodes b.stmt)) b.info (body_edges (nat_eq k main) b.info.nodes b.stmt) b.flow in
      (λ at. eqb-true k main (e.0 at), λ same. e.1 (eq-eqb k main same))
