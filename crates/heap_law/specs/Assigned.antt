-- The marks of one procedure that an assignment of its call group makes. What is no unknown is 0. Members go by struct and
-- number here, and pointer fields by their numbers through all structs where unknowns are named.
use Rattle.std.specs.Prelude.{ℕ, Bool, false, ◌&&◌}
use Rattle.c_types.specs.declared.kinds.SlotType.{SlotType}
use Rattle.c_types.specs.declared.kinds.SlotType.TheVariants as type
use Rattle.c_types.specs.Types.{is_pointer}
use Rattle.flow_graph.specs.FlowGraph.{flow_of, member_type, type_in}
use Rattle.owner_vars.specs.Unknowns.{returns_pointer}
use Rattle.owner_vars.specs.Fields.{field_number, part_of}
use Rattle.transfer_rules.specs.Body.{Body, slot_kind, sight, setting}
use Rattle.heap_law.specs.Rules.{Marks, Face, Owning}

module _ (b : Body) (t : ℕ → Bool) where
  -- which members own
  abbrev pub phi_of : Owning
  phi_of z f = is_pointer (member_type b.graph z f) && t ((sight b).phi (field_number b.graph z f))

  -- whether a member is open through a slot of this type at a place
  abbrev pub open_at : ℕ → ℕ → SlotType → ℕ → Bool
  open_at p x (type.StructPtr z) f = is_pointer (member_type b.graph z f) && t ((sight b).omega p x (field_number b.graph z f))
  open_at p x _ f = false

  -- the marks of a place
  abbrev pub marks_at : ℕ → Marks
  marks_at p = record {
    rho = λ x. is_pointer (slot_kind b x) && t ((sight b).rho p x);
    omega = λ x f. open_at p x (slot_kind b x) f;
  }

  -- the procedure's own interface
  abbrev pub own_face : Face
  own_face = record {
    param = λ j. is_pointer (type_in (flow_of b.graph b.proc).params j) && t ((setting b).pi ((setting b).param_part j));
    result = returns_pointer (flow_of b.graph b.proc).result && t ((setting b).pi 0);
  }

  -- what the call at a place takes and gives
  abbrev pub callee_face : ℕ → ℕ → Face
  callee_face p callee = record {
    param = λ j. is_pointer (type_in (flow_of b.graph callee).params j) && t ((setting b).part p callee (part_of (flow_of b.graph callee).params j));
    result = returns_pointer (flow_of b.graph callee).result && t ((setting b).part p callee 0);
  }
