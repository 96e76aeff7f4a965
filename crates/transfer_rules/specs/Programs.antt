-- A program: the parts that belong to one typed tree.
use Rattle.std.specs.Prelude.{◌≡◌, ℕ, suc, ◌<◌, ◌≤◌, ⊤, List, [], ◌∷◌, ◌++◌, length, map, slice_index, slice_index_or}
use Rattle.c_types.specs.declared.typed.Typed.{Typed}
use Rattle.c_types.specs.declared.error.LimitKind.TheVariants as limit
use Rattle.c_types.specs.Types.{is_pointer}
use Rattle.flow_graph.specs.FlowGraph.{FlowGraph, flow_of, slot_type}
use Rattle.flow_graph.specs.Fits.{IsFlowGraph}
use Rattle.flow_graph.specs.GraphOf.{graph_of}
use Rattle.path_facts.specs.Tables.{FactTables, AreFactsOf}
use Rattle.recursion_groups.specs.Grouping.{IsGrouping}
use Rattle.owner_vars.specs.declared.error.NumberError.{NumberError}
use Rattle.owner_vars.specs.declared.error.NumberError.TheVariants as error
use Rattle.owner_vars.specs.Fields.{structs_of, field_target}
use Rattle.owner_vars.specs.declared.site.Site.{Site}
use Rattle.owner_vars.specs.Unknowns.{Unknown, unknowns, root_unknowns, sites, field_count}
use Rattle.field_rules.specs.Lists.{gather, when}
use Rattle.field_rules.specs.Sight.{leads_to}

pub record Parts : Type 0 where
  pub typed : Typed
  pub graph : FlowGraph
  pub facts : FactTables
  -- the procedures of each call group, ascending, a called group before its caller's
  pub groups : List (List ℕ)
  -- the unknowns of each group, and last the root's
  pub numbers : List (List Unknown)

-- the first procedure of each group
abbrev pub firsts : List (List ℕ) → List ℕ
firsts gs = map (λ ms. slice_index ms 0) gs

abbrev pub numberings : FlowGraph → List (List ℕ) → List (List Unknown)
numberings g gs = map (unknowns g) gs ++ root_unknowns g (firsts gs) ∷ []

-- the members of a group
abbrev pub group_at : List (List ℕ) → ℕ → List ℕ
group_at gs k = slice_index_or gs k []

-- What is looked up besides

-- the slots of a procedure that are pointers
abbrev pub pointer_slots : FlowGraph → ℕ → List ℕ
pointer_slots g k = gather (length (flow_of g k).slots) (λ x. when (is_pointer (slot_type g k x)) (x ∷ []))

-- the pointer fields that point to a struct
abbrev pub target_fields : FlowGraph → ℕ → List ℕ
target_fields g s = gather (field_count g) (λ j. when (leads_to (field_target g (suc j)) s) (suc j ∷ []))

pub record Lookups : Type 0 where
  pub fields : FlowGraph
  pub sites : List (List Site)
  pub pointers : List (List ℕ)
  pub targets : List (List ℕ)

-- the pointers among the slots of each procedure with a body
pub record ArePointers (g : FlowGraph) (lists : List (List ℕ)) : Type 0 where
  pub count : length lists ≡ g.bodies
  pub each : (k : ℕ) → k < g.bodies → slice_index_or lists k [] ≡ pointer_slots g k

-- the fields that point to each struct
pub record AreTargets (g : FlowGraph) (lists : List (List ℕ)) : Type 0 where
  pub count : length lists ≡ length g.structs
  pub each : (s : ℕ) → s < length g.structs → slice_index_or lists s [] ≡ target_fields g s

pub record AreLookups (g : FlowGraph) (gs : List (List ℕ)) (l : Lookups) : Type 0 where
  pub structs : l.fields ≡ structs_of g
  pub calls : l.sites ≡ map (sites g) gs
  pub slots : ArePointers g l.pointers
  pub into : AreTargets g l.targets

-- the parts are those of one typed tree
pub record IsProgram (p : Parts) : Type 0 where
  pub graph : p.graph ≡ graph_of p.typed
  pub fits : IsFlowGraph p.graph
  pub facts : AreFactsOf p.graph p.facts
  pub groups : IsGrouping p.graph p.groups
  pub numbers : p.numbers ≡ numberings p.graph p.groups

pub record IsIndexed (p : Parts) (l : Lookups) : Type 0 where
  pub program : IsProgram p
  pub lookups : AreLookups p.graph p.groups l

-- When there is no program

-- the group k has more than 8,388,608 unknowns, and no group before it has
pub record IsFirstOver (g : FlowGraph) (count : ℕ) : Type 0 where
  pub groups : List (List ℕ)
  pub grouping : IsGrouping g groups
  pub group : ℕ
  pub within : group < length groups
  pub over : 8388608 < length (unknowns g (group_at groups group))
  pub first : (k : ℕ) → k < group → length (unknowns g (group_at groups k)) ≤ 8388608
  pub count_is : count ≡ length (unknowns g (group_at groups group))

-- want of memory has no cause; Limit comes with how many unknowns the first group has that is over
abbrev pub IsRefused : FlowGraph → NumberError → Type 0
IsRefused g error.Memory = ⊤
IsRefused g (error.Limit kind count) = (kind ≡ limit.Unknowns) × IsFirstOver g count

-- no group has more than may be
abbrev pub AllFit : FlowGraph → List (List ℕ) → Type 0
AllFit g gs = (k : ℕ) → k < length gs → length (unknowns g (group_at gs k)) ≤ 8388608
