-- What pointer fields are called in a text.
use Rattle.std.specs.Prelude.{ℕ, Bool, cond, ◌&&◌, nat_lt, nat_le, List, [], ◌∷◌, ◌++◌}
use Rattle.c_types.specs.declared.typed.Typed.{Typed}
use Rattle.flow_graph.specs.FlowGraph.{FlowGraph}
use Rattle.owner_vars.specs.Fields.{field_owner, field_member}
use Rattle.owner_vars.specs.Unknowns.{field_count}
use Rattle.annotate.specs.Names.{struct_tag, member_name}

abbrev pub field_name : Typed → FlowGraph → ℕ → List ℕ
field_name t g f = member_name t (field_owner g f) (field_member g f)

-- the struct and the field
abbrev pub field_path : Typed → FlowGraph → ℕ → List ℕ
field_path t g f = struct_tag t (field_owner g f) ++ (46 ∷ field_name t g f)

-- there is a pointer field of this number, which are counted from 1
abbrev pub is_field : FlowGraph → ℕ → Bool
is_field g f = nat_lt 0 f && nat_le f (field_count g)
