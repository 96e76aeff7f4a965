-- Assignments of call groups as a marking.
use Rattle.std.specs.Prelude.{◌≡◌, ℕ, ◌<◌, Bool, true, ⊤, List}
use Rattle.std.specs.List.{All}
use Rattle.flow_graph.specs.declared.action.Action.{Action}
use Rattle.flow_graph.specs.declared.action.Action.TheVariants as act
use Rattle.flow_graph.specs.declared.action.Edge.{Edge}
use Rattle.flow_graph.specs.FlowGraph.{FlowGraph, edges_from}
use Rattle.flow_graph.specs.Fits.{IsFlowGraph}
use Rattle.path_facts.specs.Tables.{FactTables}
use Rattle.transfer_rules.specs.Body.{Body, sight, setting}
use Rattle.transfer_rules.specs.Rules.{body_of}
use Rattle.transfer_rules.specs.Holds.{ProcHolds}
use Rattle.heap_law.specs.Markings.{Marking, called, CallsInto, IsGood}
use Rattle.heap_law.specs.Assigned.{phi_of, marks_at, own_face, callee_face}

-- what the call takes and gives is the interface of the procedure called, in another instance
abbrev pub CallAgrees : FlowGraph → (ℕ → ℕ → Body) → (ℕ → ℕ → Bool) → (i k p j : ℕ) → Action → Type 0
CallAgrees g in_ value i k p j (act.Call r callee us) = callee < g.bodies → callee_face (in_ i k) (value i) p callee ≡ own_face (in_ j callee) (value j)
CallAgrees g in_ value i k p j _ = ⊤

-- the instance i is of the call group of the procedures `members i`, whose unknowns are `value i` by their numbers
pub record AreInstances (g : FlowGraph) (ts : FactTables) (members : ℕ → List ℕ) (value : ℕ → ℕ → Bool) (c : Marking) : Type 0 where
  pub bodies : (i k : ℕ) → c.has i k ≡ true → k < g.bodies
  pub rules : (i k : ℕ) → c.has i k ≡ true → ProcHolds (sight (body_of g ts (members i) k)) (setting (body_of g ts (members i) k)) (value i)
  -- the marks are these bits
  pub phi : (i k z f : ℕ) → c.has i k ≡ true → phi_of (body_of g ts (members i) k) (value i) z f ≡ c.phi z f
  pub marks : (i k p : ℕ) → c.has i k ≡ true → c.marks i k p ≡ marks_at (body_of g ts (members i) k) (value i) p
  pub face : (i k : ℕ) → c.has i k ≡ true → c.face i k ≡ own_face (body_of g ts (members i) k) (value i)
  pub agree : (i k p : ℕ) → c.has i k ≡ true → All (λ (e : Edge). CallAgrees g (λ j l. body_of g ts (members j) l) value i k p (called c i k p) e.action) (edges_from g k p)
  -- `main` has an instance, and each call one that has the procedure called
  pub main : c.has c.first g.main_proc ≡ true
  pub calls : (i k p : ℕ) → c.has i k ≡ true → All (λ (e : Edge). CallsInto g c (called c i k p) e.action) (edges_from g k p)

-- such instances are a good certificate
abbrev pub InstancesAreGood : Type 0
InstancesAreGood =
    (g : FlowGraph) (ts : FactTables) (members : ℕ → List ℕ) (value : ℕ → ℕ → Bool) (c : Marking) → IsFlowGraph g
    → AreInstances g ts members value c → IsGood g ts c
