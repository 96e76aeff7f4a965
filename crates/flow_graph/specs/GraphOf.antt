-- The flow graph of a typed tree.
use Rattle.std.specs.Prelude.{◌≡◌, ℕ, ◌+◌, ◌-◌, ◌%◌, List, [], ◌∷◌, ◌++◌, length, map, Bool, Option, Some, None, is_some, option_map, option_and_then, nat_eq, slice_get, if◌then◌else◌}
use Rattle.c_tree.specs.declared.tree.Tree.{Tree}
use Rattle.c_tree.specs.Plain.{Stmt}
use Rattle.c_tree.specs.Nodes.{stmt_nodes}
use Rattle.c_tree.specs.View.{stmt_view}
use Rattle.c_types.specs.declared.kinds.SlotType.{SlotType}
use Rattle.c_types.specs.declared.infos.StructInfo.{StructInfo}
use Rattle.c_types.specs.declared.infos.ProcInfo.{ProcInfo}
use Rattle.c_types.specs.declared.typed.Typed.{Typed}
use Rattle.c_types.specs.Fits.{kinds_of, params_of}
use Rattle.flow_graph.specs.declared.raw.RawEdge.{RawEdge}
use Rattle.flow_graph.specs.FlowGraph.{Flow, FlowGraph}
use Rattle.flow_graph.specs.Edges.{body_edges}
use Rattle.flow_graph.specs.Strings.{strings, string_numbers}
use Rattle.flow_graph.specs.Numbers.{Numbering, sorted, ranks, type_of_code, place_keys, places_of, temp_keys, edge_rows}

-- integers, characters, pointers to both, and a pointer to each struct
abbrev pub type_count : List StructInfo → ℕ
type_count ss = 4 + length ss

abbrev pub member_types : List StructInfo → List (List SlotType)
member_types ss = map (λ s. map (λ m. m.kind) s.members) ss

-- the numbers in a body whose edges these are: `vars` slots before the temporaries, `texts` strings before each node
abbrev pub numbering : ℕ → ℕ → Bool → List ℕ → List RawEdge → Numbering
numbering vars types main texts es = record {
  vars = vars;
  types = types;
  temps = sorted (temp_keys types es);
  places = ranks (place_keys es);
  end = 1 + length (sorted (place_keys es));
  exit = length (places_of main es) - 1;
  texts = texts;
}

abbrev pub temp_types : ℕ → List RawEdge → List SlotType
temp_types types es = map (λ k. type_of_code (k % types)) (sorted (temp_keys types es))

-- a procedure with a body, given its edges
abbrev pub body_flow : ℕ → Bool → List ℕ → ProcInfo → List RawEdge → Flow
body_flow types main texts p es = record {
  params = params_of p;
  result = p.result;
  slots = kinds_of p.slots ++ temp_types types es;
  ret = if is_some p.result then Some (length p.slots - 1) else None;
  places = places_of main es;
  edges = edge_rows (numbering (length p.slots) types main texts es) es (length (places_of main es));
}

-- a procedure without a body
abbrev pub external_flow : ProcInfo → Flow
external_flow p = record {
  params = params_of p;
  result = p.result;
  slots = [];
  ret = None;
  places = [];
  edges = [];
}

abbrev pub flow_of_proc : ℕ → Bool → ℕ → ProcInfo → Option Stmt → Flow
flow_of_proc types main before p None = external_flow p
flow_of_proc types main before p (Some s) = body_flow types main (string_numbers before (stmt_nodes s)) p (body_edges main p.nodes s)

abbrev pub body_of : Tree → ProcInfo → Option Stmt
body_of t p = option_and_then (λ i. option_map stmt_view i.body) (slice_get t.procs p.item)

abbrev pub strings_of : Option Stmt → List (List ℕ)
strings_of None = []
strings_of (Some s) = strings (stmt_nodes s)

-- the strings of the bodies, in order of the procedures
abbrev pub all_strings : Tree → List ProcInfo → List (List ℕ)
all_strings t [] = []
all_strings t (p ∷ ps) = strings_of (body_of t p) ++ all_strings t ps

-- the procedures from number k on, before which there are so many strings
abbrev pub flows_from : Tree → ℕ → ℕ → ℕ → ℕ → List ProcInfo → List Flow
flows_from t types main k before [] = []
flows_from t types main k before (p ∷ ps) =
    flow_of_proc types (nat_eq k main) before p (body_of t p) ∷ flows_from t types main (k + 1) (before + length (strings_of (body_of t p))) ps

abbrev pub graph_of_parts : Tree → List StructInfo → List ProcInfo → ℕ → ℕ → FlowGraph
graph_of_parts t ss ps bodies main = record {
  structs = member_types ss;
  procs = flows_from t (type_count ss) main 0 0 ps;
  bodies = bodies;
  main_proc = main;
  texts = all_strings t ps;
}

abbrev pub graph_of : Typed → FlowGraph
graph_of t = graph_of_parts t.tree t.structs t.procs t.bodies t.main_proc

-- it is the graph of a typed tree
pub record IsTypedGraph (g : FlowGraph) : Type 0 where
  pub typed : Typed
  pub is : g ≡ graph_of typed
