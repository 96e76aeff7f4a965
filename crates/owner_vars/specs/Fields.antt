-- Pointer fields by their numbers: from 1 through all structs, in the order of the members.
use Rattle.std.specs.Prelude.{ℕ, ◌+◌, ◌-◌, List, [], ◌∷◌, length, take, cond, Option, Some, None, slice_index_or}
use Rattle.std.specs.List.{flat_map, range_with_len}
use Rattle.c_types.specs.declared.kinds.SlotType.{SlotType}
use Rattle.c_types.specs.declared.kinds.SlotType.TheVariants as type
use Rattle.c_types.specs.Types.{is_pointer}
use Rattle.flow_graph.specs.FlowGraph.{FlowGraph, members_of, type_in}
use Rattle.flow_graph.specs.Fits.{pointer_count}
use Rattle.zo_core.specs.declared.number_range.NumberRange.{NumberRange}
use Rattle.owner_vars.specs.Unknowns.{first_field}

-- the structs of a graph alone, on which all of this page depends and nothing else
abbrev pub structs_of : FlowGraph → FlowGraph
structs_of g = record { structs = g.structs; procs = []; bodies = 0; main_proc = 0; texts = [] }

-- the struct to which a type points
abbrev pub points_to : SlotType → Option ℕ
points_to (type.StructPtr s) = Some s
points_to _ = None

-- the number of the pointer field that is member m of the struct s
abbrev pub field_number : FlowGraph → ℕ → ℕ → ℕ
field_number g s m = first_field g s + pointer_count (take m (members_of g s))

-- the numbers of the pointer fields of a struct
abbrev pub field_range : FlowGraph → ℕ → NumberRange
field_range g s = record { first = first_field g s; count = pointer_count (members_of g s) }

-- for each pointer field the struct that has it
abbrev pub field_owners : FlowGraph → List ℕ
field_owners g = flat_map (λ s. flat_map (λ t. cond (is_pointer t) (s ∷ []) []) (members_of g s)) (range_with_len 0 (length g.structs))

-- the members that are pointers, among members of these types
abbrev pub pointer_members : List SlotType → List ℕ
pointer_members ts = flat_map (λ m. cond (is_pointer (type_in ts m)) (m ∷ []) []) (range_with_len 0 (length ts))

-- for each pointer field which member of its struct it is
abbrev pub field_members : FlowGraph → List ℕ
field_members g = flat_map (λ s. pointer_members (members_of g s)) (range_with_len 0 (length g.structs))

-- for each pointer field the struct to which it points
abbrev pub field_targets : FlowGraph → List (Option ℕ)
field_targets g = flat_map (λ s. flat_map (λ t. cond (is_pointer t) (points_to t ∷ []) []) (members_of g s)) (range_with_len 0 (length g.structs))

abbrev pub field_owner : FlowGraph → ℕ → ℕ
field_owner g f = slice_index_or (field_owners g) (f - 1) 0

abbrev pub field_member : FlowGraph → ℕ → ℕ
field_member g f = slice_index_or (field_members g) (f - 1) 0

abbrev pub field_target : FlowGraph → ℕ → Option ℕ
field_target g f = slice_index_or (field_targets g) (f - 1) None

-- the part of an interface that argument or parameter j is: its number among the pointers, from 1
abbrev pub part_of : List SlotType → ℕ → ℕ
part_of params j = 1 + pointer_count (take j params)
