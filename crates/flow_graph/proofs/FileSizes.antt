-- How many places, slots and strings the graph of a typed file has.
use Rattle.std.proofs.Common.{◌≡◌, ℕ, ◌*◌, ◌<◌, ◌≤◌, Bool, zero, suc, List, [], ◌∷◌, length, sum_by, refl, sym, ap, arith, Option, Some, None, slice_get, length-append, mul-add}
use Rattle.std.specs.Prelude.{◌%◌}
use Rattle.std.proofs.lemmas.List.{length-map}
use Rattle.std.proofs.lemmas.List.Sums.{sum_by-cons}
use Rattle.c_tree.specs.declared.tree.Tree.{Tree}
use Rattle.c_tree.specs.Plain.{Stmt}
use Rattle.c_tree.specs.Nodes.{stmt_count, stmt_nodes}
use Rattle.c_tree.specs.View.{tree_view}
use Rattle.c_types.specs.declared.infos.SlotInfo.{SlotInfo}
use Rattle.c_types.specs.declared.infos.StructInfo.{StructInfo}
use Rattle.c_types.specs.declared.infos.ProcInfo.{ProcInfo}
use Rattle.c_types.specs.Fits as known
use Rattle.c_types.specs.Fits.{kinds_of, result_count, IsTypedBody, size_with}
use Rattle.c_types.specs.declared.kinds.SlotType.{SlotType}
use Rattle.flow_graph.specs.FlowGraph.{Flow, FlowGraph, flow_of}
use Rattle.flow_graph.specs.Strings.{string_numbers}
use Rattle.flow_graph.specs.Numbers.{temp_keys, slot_keys, sorted, type_of_code}
use Rattle.flow_graph.specs.Edges.{body_edges}
use Rattle.flow_graph.specs.GraphOf.{flow_of_proc, temp_types, body_of, strings_of, all_strings}
use Rattle.flow_graph.proofs.FileFlows.{strings_few, stmt_nodes_length}
use Rattle.flow_graph.proofs.FileBodies.{body_same}
use Rattle.flow_graph.proofs.NumbersKeys.{sorted-few}
use Rattle.flow_graph.proofs.NumbersBody.{body_flow_places}
use Rattle.flow_graph.proofs.Control.{body_controlled}
use Rattle.flow_graph.proofs.TempsStmts.{stmt_temps, stmt_temps_few}
use Rattle.flow_graph.proofs.TempsKeys.{keys_of_nodes, slot_keys_few}

-- Sums over two lists of one length

-- what is said of the elements at each place
abbrev pub AtEach : {X Y : Type 0} → (X → Y → Type 0) → List X → List Y → Type 0
AtEach {X} {Y} R xs ys = (i : ℕ) (x : X) (y : Y) → slice_get xs i ≡ Some x → slice_get ys i ≡ Some y → R x y

pub sums_follow : {X Y : Type 0} (f : X → ℕ) (h : Y → ℕ) (xs : List X) (ys : List Y) → length xs ≡ length ys → AtEach (λ x y. f x ≤ h y) xs ys → sum_by f xs ≤ sum_by h ys
sums_follow f h [] [] same each = omega arith
sums_follow f h [] (y ∷ ys) same each = absurd (omega (arith, same))
sums_follow f h (x ∷ xs) [] same each = absurd (omega (arith, same))
sums_follow f h (x ∷ xs) (y ∷ ys) same each =
    omega (arith, each 0 x y refl refl, sums_follow f h xs ys (omega (arith, same)) (λ i. each (suc i)), sum_by-cons f x xs, sum_by-cons h y ys)

-- the same, where they are told apart at one place
pub sums_below : {X Y : Type 0} (f : X → ℕ) (h : Y → ℕ) (xs : List X) (ys : List Y) → length xs ≡ length ys → AtEach (λ x y. f x ≤ h y) xs ys
    → (k : ℕ) (a : X) (b : Y) → slice_get xs k ≡ Some a → slice_get ys k ≡ Some b → f a < h b → sum_by f xs < sum_by h ys
sums_below f h [] ys same each k a b at on less = absurd (cc)
sums_below f h (x ∷ xs) [] same each k a b at on less = absurd (omega (arith, same))
sums_below f h (x ∷ xs) (y ∷ ys) same each zero a b at on less =
    omega (arith, less, at_first f x a at, at_first h y b on, sums_follow f h xs ys (omega (arith, same)) (λ i. each (suc i)), sum_by-cons f x xs, sum_by-cons h y ys)
  where
    at_first : {Z : Type 0} (m : Z → ℕ) (z c : Z) → Some z ≡ Some c → m z ≡ m c
    at_first m z c e = let same : z ≡ c = cc in ap m same
sums_below f h (x ∷ xs) (y ∷ ys) same each (suc k) a b at on less =
    omega (arith, each 0 x y refl refl, sums_below f h xs ys (omega (arith, same)) (λ i. each (suc i)) k a b at on less, sum_by-cons f x xs, sum_by-cons h y ys)

pub sum_scaled : {X : Type 0} (c : ℕ) (h : X → ℕ) (xs : List X) → sum_by (λ x. c * h x) xs ≡ c * sum_by h xs
sum_scaled c h [] = omega arith
sum_scaled c h (x ∷ xs) = rw (sum_by-cons (λ x. c * h x) x xs, sum_by-cons h x xs, sum_scaled c h xs) (sym (mul-add c (h x) (sum_by h xs)))

-- A procedure

pub flow_places : (g : FlowGraph) (k types : ℕ) (main : Bool) (before : ℕ) (p : ProcInfo) (o : Option Stmt) → flow_of g k ≡ flow_of_proc types main before p o
    → length (flow_of g k).places ≤ 4 * size_with p o
flow_places g k types main before p None e = rw e (omega arith)
flow_places g k types main before p (Some s) e =
    omega (arith, body_flow_places g k types (stmt_count s) main (string_numbers before (stmt_nodes s)) p (body_edges main p.nodes s) e (body_controlled main p.nodes s))

temp_types_few : (types : ℕ) (main : Bool) (p : ProcInfo) (s : Stmt) → length (temp_types types (body_edges main p.nodes s)) < stmt_count s
temp_types_few types main p s =
    let keys : List ℕ = temp_keys types (body_edges main p.nodes s) in
    let all : List ℕ = slot_keys types (stmt_temps p.nodes 0 s) in
    omega (
      arith,
      length-map (sorted keys) (λ (k : ℕ). type_of_code (k % types)),
      sorted-few keys all (keys_of_nodes types main p.nodes s),
      slot_keys_few types (stmt_temps p.nodes 0 s),
      stmt_temps_few p.nodes 0 s,
    )

pub body_slots : (g : FlowGraph) (k types : ℕ) (main : Bool) (before : ℕ) (ss : List StructInfo) (ps : List ProcInfo) (p : ProcInfo) (s : Stmt)
    → flow_of g k ≡ flow_of_proc types main before p (Some s) → IsTypedBody ss ps p s → length (flow_of g k).slots < 2 * size_with p (Some s)
body_slots g k types main before ss ps p s e typed =
    let count = ap (λ (f : Flow). length f.slots) e in
    omega (
      arith,
      count,
      length-append (kinds_of p.slots) (temp_types types (body_edges main p.nodes s)),
      length-map p.slots (λ (v : SlotInfo). v.kind),
      temp_types_few types main p s,
      typed.result.count,
      result_few p.result,
      typed.locals,
    )
  where
    result_few : (o : Option SlotType) → result_count o ≤ 1
    result_few None = omega arith
    result_few (Some t) = omega arith

pub flow_slots : (g : FlowGraph) (k types : ℕ) (main : Bool) (before : ℕ) (ss : List StructInfo) (ps : List ProcInfo) (p : ProcInfo) (o : Option Stmt)
    → flow_of g k ≡ flow_of_proc types main before p o → ((s : Stmt) → o ≡ Some s → IsTypedBody ss ps p s) → length (flow_of g k).slots ≤ 2 * size_with p o
flow_slots g k types main before ss ps p None e typed = rw e (omega arith)
flow_slots g k types main before ss ps p (Some s) e typed = omega (arith, body_slots g k types main before ss ps p s e (typed s refl))

-- Strings

strings_of_body : (p : ProcInfo) (o : Option Stmt) → length (strings_of o) ≤ size_with p o
strings_of_body p None = omega arith
strings_of_body p (Some s) = omega (arith, strings_few (stmt_nodes s), stmt_nodes_length s)

pub strings_within : (t : Tree) (ps : List ProcInfo) → length (all_strings t ps) ≤ sum_by (λ p. size_with p (known.body_of (tree_view t) p)) ps
strings_within t [] = omega arith
strings_within t (p ∷ ps) =
    omega (
      arith,
      strings_of_body p (body_of t p),
      ap (size_with p) (body_same t p),
      strings_within t ps,
      length-append (strings_of (body_of t p)) (all_strings t ps),
      sum_by-cons (λ p. size_with p (known.body_of (tree_view t) p)) p ps,
    )
