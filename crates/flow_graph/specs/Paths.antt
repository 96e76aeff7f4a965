-- Paths of edges of a procedure, each as the numbers of its edges one after another.
use Rattle.std.specs.Prelude.{◌≡◌, ℕ, ◌<◌, List, [], ◌∷◌, length, slice_index_or}
use Rattle.flow_graph.specs.declared.action.Action.TheVariants as act
use Rattle.flow_graph.specs.declared.action.Edge.{Edge}
use Rattle.flow_graph.specs.FlowGraph.{FlowGraph, edges_from}

abbrev pub no_edge : Edge
no_edge = record { action = act.Skip; to = 0 }

-- the edge of a place with this number
abbrev pub edge_at : FlowGraph → ℕ → ℕ → ℕ → Edge
edge_at g k p i = slice_index_or (edges_from g k p) i no_edge

-- a path of the procedure k leads from the place p to the place q
abbrev pub Leads : FlowGraph → ℕ → ℕ → List ℕ → ℕ → Type 0
Leads g k p [] q = p ≡ q
Leads g k p (i ∷ is) q = (i < length (edges_from g k p)) × Leads g k (edge_at g k p i).to is q

-- some path leads from the entry, the place 0, to the place
abbrev pub IsReached : FlowGraph → ℕ → ℕ → Type 0
IsReached g k p = (path : List ℕ) × Leads g k 0 path p
