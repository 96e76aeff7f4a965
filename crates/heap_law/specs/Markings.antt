-- A certificate as marks, plain functions of numbers, and when it is good.
use Rattle.std.specs.Prelude.{◌≡◌, ℕ, ◌<◌, Bool, true, ⊤, length, Option, Some, None}
use Rattle.std.specs.List.{All}
use Rattle.flow_graph.specs.declared.action.Action.{Action}
use Rattle.flow_graph.specs.declared.action.Action.TheVariants as act
use Rattle.flow_graph.specs.declared.action.Edge.{Edge}
use Rattle.flow_graph.specs.FlowGraph.{FlowGraph, flow_of, edges_from, slot_type}
use Rattle.path_facts.specs.Tables.{FactTables}
use Rattle.heap_law.specs.Rules.{Marks, Face, Owning, known_at, EdgeHolds, PlaceHolds}

-- what a certificate says of a graph's members, procedures, calls and places
pub record Marking : Type 0 where
  -- which members own
  pub phi : Owning
  -- the first instance that has `main`
  pub first : ℕ
  -- an instance has a procedure
  pub has : ℕ → ℕ → Bool
  -- by instance, procedure and place of a call: the instance that it names, none where the call stays in its own
  pub site : ℕ → ℕ → ℕ → Option ℕ
  -- which parameters and results own, by instance and procedure
  pub face : ℕ → ℕ → Face
  -- which slots own and which members are open, by instance, procedure and place
  pub marks : ℕ → ℕ → ℕ → Marks

-- the instance of what the procedure k calls at the place p in the instance i
abbrev pub called : Marking → ℕ → ℕ → ℕ → ℕ
called c i k p = elim (c.site i k p) [ None ↦ i | Some j ↦ j ]

-- a procedure with a body that the action calls is one of the instance j
abbrev pub CallsInto : FlowGraph → Marking → ℕ → Action → Type 0
CallsInto g c j (act.Call r callee us) = callee < g.bodies → c.has j callee ≡ true
CallsInto g c j _ = ⊤

-- `main` has an instance, calls lead to instances of what they call, and every instance meets the rules on each edge and
-- at each place of its procedures
pub record IsGood (g : FlowGraph) (facts : FactTables) (c : Marking) : Type 0 where
  pub main : c.has c.first g.main_proc ≡ true
  pub calls : (i k p : ℕ) → c.has i k ≡ true → All (λ (e : Edge). CallsInto g c (called c i k p) e.action) (edges_from g k p)
  pub edges : (i k p : ℕ) → c.has i k ≡ true
      → All (λ (e : Edge). EdgeHolds g c.phi (slot_type g k) (c.marks i k p) (c.marks i k e.to) (known_at facts k p) (c.face (called c i k p)) e.action) (edges_from g k p)
  pub places : (i k p : ℕ) → c.has i k ≡ true → p < length (flow_of g k).places → PlaceHolds g facts c.phi k p (c.marks i k p) (c.face i k)
