-- The text of a conflict: the constraints that cannot be met together, one a line.
use Rattle.std.specs.Prelude.{ℕ, cond, nat_eq, List, [], ◌∷◌, ◌++◌, slice_index_or, codes}
use Rattle.std.specs.List.{flat_map}
use Rattle.c_types.specs.declared.typed.Typed.{Typed}
use Rattle.conflict_proof.specs.declared.names.ConstraintName.{ConstraintName}
use Rattle.flow_graph.specs.FlowGraph.{FlowGraph}
use Rattle.annotate.specs.Names.{proc_name, slot_text}
use Rattle.annotate.specs.Fields.{field_name, is_field}
use Rattle.annotate.specs.Positions.{position, position_text}

-- the names of the rules, by their numbers from 1
abbrev pub rule_names : List (List ℕ)
rule_names =
    [] ∷ codes "Target" ∷ codes "Copy" ∷ codes "Closed" ∷ codes "New" ∷ codes "Text" ∷ codes "Free" ∷ codes "FreeField"
    ∷ codes "Freed" ∷ codes "Load" ∷ codes "StoreOpen" ∷ codes "Store" ∷ codes "CallArg" ∷ codes "CallResult" ∷ codes "CallClosed"
    ∷ codes "Entry" ∷ codes "ExitRet" ∷ codes "ExitOwn" ∷ codes "ExitClosed" ∷ codes "Bound" ∷ codes "OneBase" ∷ codes "Same" ∷ []

abbrev pub rule_name : ℕ → List ℕ
rule_name n = slice_index_or rule_names n []

-- the field, after a point, where the name has one
abbrev pub field_part : Typed → FlowGraph → ℕ → List ℕ
field_part t g f = cond (is_field g f) (46 ∷ field_name t g f) []

-- the second slot, which the rule OneBase has
abbrev pub second_part : Typed → ConstraintName → List ℕ
second_part t n = cond (nat_eq n.rule 20) (32 ∷ slot_text t n.proc n.other) []

-- the procedure, the position of the place, the rule, the slot with the field, and the second slot
abbrev pub name_line : Typed → FlowGraph → ConstraintName → List ℕ
name_line t g n =
    proc_name t n.proc ++ codes " " ++ position_text (position t g n.proc n.place) ++ codes " " ++ rule_name n.rule ++ codes " "
    ++ slot_text t n.proc n.slot ++ field_part t g n.field ++ second_part t n ++ codes "\n"

abbrev pub conflict_text : Typed → FlowGraph → List ConstraintName → List ℕ
conflict_text t g ns = codes "conflict\n" ++ flat_map (name_line t g) ns
