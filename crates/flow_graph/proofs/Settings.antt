-- The graph of a typed file, and what holds at a node of a body.
use Rattle.std.specs.Prelude.{◌≡◌, ℕ, ◌+◌, ◌-◌, ◌<◌, Bool, true, false, ⊤, List, length, Some, slice_get, slice_index_or}
use Rattle.c_tree.specs.declared.position.Span.{Span}
use Rattle.c_tree.specs.Plain.{text}
use Rattle.c_tree.specs.Nodes.{Node, of_expr}
use Rattle.c_types.specs.declared.kinds.SlotType.{SlotType}
use Rattle.c_types.specs.declared.infos.StructInfo.{StructInfo}
use Rattle.c_types.specs.declared.infos.ProcInfo.{ProcInfo}
use Rattle.c_types.specs.Types.{is_pointer}
use Rattle.c_types.specs.Fits.{Body, params_of}
use Rattle.flow_graph.specs.declared.raw.Slot.{Slot}
use Rattle.flow_graph.specs.declared.raw.Slot.TheVariants as slot
use Rattle.flow_graph.specs.FlowGraph.{FlowGraph, flow_of}
use Rattle.flow_graph.specs.GraphOf.{member_types}
use Rattle.flow_graph.proofs.RawFits.{kind_of, IsInteger}

-- what the graph has of a procedure
pub record IsFlowOf (g : FlowGraph) (k : ℕ) (p : ProcInfo) : Type 0 where
  pub exists : k < length g.procs
  pub params : (flow_of g k).params ≡ params_of p
  pub result : (flow_of g k).result ≡ p.result

-- the graph has these structs and procedures
pub record IsProgram (g : FlowGraph) (ss : List StructInfo) (ps : List ProcInfo) : Type 0 where
  pub structs : g.structs ≡ member_types ss
  pub procs : (k : ℕ) (p : ProcInfo) → slice_get ps k ≡ Some p → IsFlowOf g k p

-- before each node that is a string there are so many strings of the graph
abbrev pub TextsFit : FlowGraph → List ℕ → List Node → Type 0
TextsFit g texts ns = (n : ℕ) (at : Span) (b : List ℕ) → slice_get ns n ≡ Some (of_expr (text at b)) → slice_index_or texts n 0 < length g.texts

-- these stand in a list from place n on
abbrev pub IsAt : {A : Type 0} → List A → ℕ → List A → Type 0
IsAt xs n ys = (i : ℕ) → i < length ys → slice_get xs (n + i) ≡ slice_get ys i

-- a slot to which the value of node n goes, in a statement whose first expression node is `base`: none that the node reads
abbrev pub IsGoal : Body → ℕ → ℕ → Slot → Type 0
IsGoal b base n (slot.Var y) = ⊤
IsGoal b base n slot.Ret = length b.slots ≡ b.variables + 1
IsGoal b base n (slot.Temp k t) = k ≡ n - base

abbrev pub Takes : Bool → List SlotType → Slot → SlotType → Type 0
Takes true vs x t = kind_of vs x ≡ Some t
Takes false vs x t = IsInteger vs x

-- a value of this type may go to the slot
abbrev pub TakesKind : List SlotType → Slot → SlotType → Type 0
TakesKind vs x t = Takes (is_pointer t) vs x t
