-- Who calls whom.
use Rattle.std.specs.Prelude.{◌≡◌, ℕ, ◌<◌, ◌⊎◌, ◌↔◌, List, [], ◌∷◌, Some, length, slice_index_or}
use Rattle.std.specs.List.{Contains}
use Rattle.flow_graph.specs.declared.action.Edge.{Edge}
use Rattle.flow_graph.specs.FlowGraph.{FlowGraph, edges_from}
use Rattle.flow_graph.specs.Calls.{callee_of}

-- an edge of the body of p calls q, which has a body too
pub record Calls (g : FlowGraph) (p q : ℕ) : Type 0 where
  pub caller : p < g.bodies
  pub place : ℕ
  pub edge : Edge
  pub there : Contains (edges_from g p place) edge
  pub call : callee_of edge.action ≡ Some q
  pub callee : q < g.bodies

-- p calls the first of these procedures, each of them calls the next, and the last is q; none where p is q
abbrev pub Leads : FlowGraph → ℕ → List ℕ → ℕ → Type 0
Leads g p [] q = p ≡ q
Leads g p (r ∷ rs) q = Calls g p r × Leads g r rs q

-- a list of calls leads from p to q
abbrev pub Reaches : FlowGraph → ℕ → ℕ → Type 0
Reaches g p q = (through : List ℕ) × Leads g p through q

-- each reaches the other
abbrev pub AreMutual : FlowGraph → ℕ → ℕ → Type 0
AreMutual g p q = Reaches g p q × Reaches g q p

-- one of these edges calls q, which has a body
pub record IsCalled (bodies : ℕ) (es : List Edge) (q : ℕ) : Type 0 where
  pub edge : Edge
  pub there : Contains es edge
  pub call : callee_of edge.action ≡ Some q
  pub body : q < bodies

-- the lists have what each procedure with a body calls
pub record AreCalls (g : FlowGraph) (calls : List (List ℕ)) : Type 0 where
  pub count : length calls ≡ g.bodies
  pub each : (p q : ℕ) → p < g.bodies → Contains (slice_index_or calls p []) q ↔ Calls g p q

-- those that were there and those of which P holds are there now, and no others
pub record Gains (old new : List ℕ) (P : ℕ → Type 0) : Type 0 where
  pub kept : (q : ℕ) → Contains old q → Contains new q
  pub only : (q : ℕ) → Contains new q → Contains old q ⊎ P q
  pub all : (q : ℕ) → P q → Contains new q
