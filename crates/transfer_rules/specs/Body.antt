-- One procedure of a call group: the numbers of its unknowns, and what rules see of it.
use Rattle.std.specs.Prelude.{ℕ, Bool, false, ◌&&◌, ◌||◌, List, [], ◌∷◌, length, Option, Some, None, nat_eq}
use Rattle.c_types.specs.declared.kinds.SlotType.{SlotType}
use Rattle.c_types.specs.Types.{is_pointer}
use Rattle.flow_graph.specs.FlowGraph.{Flow, FlowGraph, flow_of, has_body, edges_from, member_type, slot_type}
use Rattle.flow_graph.specs.Fits.{is_in}
use Rattle.path_facts.specs.Tables.{FactTables, empty_in, fresh_in}
use Rattle.owner_vars.specs.Unknowns.{Unknown, Phi, Pi, Sigma, Rho, Omega, unknowns, number_of, field_count, parts_of}
use Rattle.owner_vars.specs.Fields.{points_to, field_number, field_range, field_owner, field_target, part_of}
use Rattle.owner_vars.specs.Sites.{site_at}
use Rattle.field_rules.specs.Sight.{Sight}
use Rattle.flow_graph.specs.declared.action.Action.{Action}
use Rattle.flow_graph.specs.declared.action.Action.TheVariants as act
use Rattle.flow_graph.specs.declared.action.Edge.{Edge}

pub record Body : Type 0 where
  pub graph : FlowGraph
  pub facts : FactTables
  -- the procedures of the call group, ascending
  pub members : List ℕ
  -- the one of them that this is
  pub proc : ℕ

-- What rules see of a procedure besides its slots, fields and unknowns.
pub record Setting : Type 0 where
  pub proc : ℕ
  -- the parameters are the first slots
  pub params : ℕ
  -- the slot of the result
  pub ret : Option ℕ
  -- the number of a parameter among the pointer parameters, from 1
  pub param_part : (slot : ℕ) → ℕ
  -- the number of the pointer field that is a member of the struct to which a slot points
  pub field_at : (slot member : ℕ) → ℕ
  pub has_body : (proc : ℕ) → Bool
  -- the unknowns' numbers: of a part of the interface, and of what the call at a place takes or gives in a part
  pub pi : (part : ℕ) → ℕ
  pub part : (place callee part : ℕ) → ℕ
  -- whether there are such unknowns, and whether a member is a pointer of the struct to which a slot points
  pub has_pi : (part : ℕ) → Bool
  pub has_part : (place callee part : ℕ) → Bool
  pub is_field : (slot member : ℕ) → Bool
  pub edges : (place : ℕ) → List Edge

-- the same of the struct to which a type points; 0 where it points to none
abbrev pub field_behind : FlowGraph → Option ℕ → ℕ → ℕ
field_behind g None m = 0
field_behind g (Some s) m = field_number g s m

-- the member of the struct to which a type points is a pointer
abbrev pub is_field_behind : FlowGraph → Option ℕ → ℕ → Bool
is_field_behind g None m = false
is_field_behind g (Some s) m = is_pointer (member_type g s m)

-- the interface of a procedure has a part
abbrev pub has_part : Flow → ℕ → Bool
has_part f i = is_in (parts_of f) i

-- one of these edges calls a procedure
abbrev pub calls : Action → ℕ → Bool
calls (act.Call r callee us) c = nat_eq c callee
calls _ c = false

abbrev pub is_called : List Edge → ℕ → Bool
is_called [] c = false
is_called (e ∷ es) c = calls e.action c || is_called es c

-- what the call at a place takes or gives in a part of the interface: at a site its own, and inside the group the
-- called procedure's
abbrev pub part_at : Option ℕ → ℕ → ℕ → Unknown
part_at None callee i = Pi callee i
part_at (Some site) callee i = Sigma site i

module _ (b : Body) where
  -- the type of a slot
  abbrev pub slot_kind : ℕ → SlotType
  slot_kind x = slot_type b.graph b.proc x

  -- the number of an unknown of the group
  abbrev pub number : Unknown → ℕ
  number u = number_of (unknowns b.graph b.members) u

  abbrev pub sight : Sight
  sight = record {
    places = length (flow_of b.graph b.proc).places;
    slots = length (flow_of b.graph b.proc).slots;
    pointer = λ x. is_pointer (slot_kind x);
    structure = λ x. points_to (slot_kind x);
    structs = length b.graph.structs;
    fields = field_count b.graph;
    field_of = field_owner b.graph;
    field_to = field_target b.graph;
    fields_of = field_range b.graph;
    phi = λ f. number (Phi f);
    rho = λ p x. number (Rho b.proc p x);
    omega = λ p x f. number (Omega b.proc p x f);
    empty = empty_in b.facts b.proc;
    fresh = fresh_in b.facts b.proc;
  }

  abbrev pub call_part : ℕ → ℕ → ℕ → Unknown
  call_part p callee i = part_at (site_at b.graph b.members b.proc p) callee i

  abbrev pub setting : Setting
  setting = record {
    proc = b.proc;
    params = length (flow_of b.graph b.proc).params;
    ret = (flow_of b.graph b.proc).ret;
    param_part = part_of (flow_of b.graph b.proc).params;
    field_at = λ y m. field_behind b.graph (points_to (slot_kind y)) m;
    has_body = has_body b.graph;
    pi = λ i. number (Pi b.proc i);
    part = λ p callee i. number (call_part p callee i);
    has_pi = λ i. has_part (flow_of b.graph b.proc) i;
    has_part = λ p callee i. has_body b.graph callee && (is_called (edges_from b.graph b.proc p) callee && has_part (flow_of b.graph callee) i);
    is_field = λ y m. is_field_behind b.graph (points_to (slot_kind y)) m;
    edges = edges_from b.graph b.proc;
  }
