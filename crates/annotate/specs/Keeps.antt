-- Owning fields that lead back to their own struct, so that they may be part of a cycle that is never freed.
use Rattle.std.specs.Prelude.{◌≡◌, ℕ, ◌-◌, ◌<◌, ◌≤◌, ◌↔◌, Bool, true, false, cond, nat_eq, List, [], ◌∷◌, ◌++◌, length, Option, Some, None, slice_index_or, slice_set}
use Rattle.std.specs.List.{Contains}
use Rattle.std.specs.Option.{option_map_or}
use Rattle.flow_graph.specs.FlowGraph.{FlowGraph}
use Rattle.owner_vars.specs.Fields.{field_owner, field_target}
use Rattle.owner_vars.specs.Unknowns.{field_count}
use Rattle.annotate.specs.Instances.{bit_at}
use Rattle.annotate.specs.Rings.{mark_at}

-- whether a field owns, of the bits of all fields, which are counted from 1
abbrev pub field_owns : List Bool → ℕ → Bool
field_owns phi f = bit_at phi (f - 1)

-- a field of the struct s owns and points to the struct z
pub record Leads (g : FlowGraph) (phi : List Bool) (s z : ℕ) : Type 0 where
  pub field : ℕ
  pub some : 0 < field
  pub within : field ≤ field_count g
  pub owns : field_owns phi field ≡ true
  pub from : field_owner g field ≡ s
  pub to : field_target g field ≡ Some z

-- owning fields lead from s to the first of these structs, from each to the next, and the last is z; none where s is z
abbrev pub LeadsAlong : FlowGraph → List Bool → ℕ → List ℕ → ℕ → Type 0
LeadsAlong g phi s [] z = s ≡ z
LeadsAlong g phi s (r ∷ rs) z = Leads g phi s r × LeadsAlong g phi r rs z

-- owning fields lead from s to z through structs, or s is z
abbrev pub LeadsOn : FlowGraph → List Bool → ℕ → ℕ → Type 0
LeadsOn g phi s z = (through : List ℕ) × LeadsAlong g phi s through z

-- the field owns, and points to a struct from which owning fields lead back to its own
pub record LeadsBack (g : FlowGraph) (phi : List Bool) (f : ℕ) : Type 0 where
  pub owns : field_owns phi f ≡ true
  pub target : ℕ
  pub to : field_target g f ≡ Some target
  pub back : LeadsOn g phi target (field_owner g f)

-- the test tells which pointer fields do
abbrev pub TellsBack : FlowGraph → List Bool → (ℕ → Bool) → Type 0
TellsBack g phi kept = (f : ℕ) → 0 < f → f ≤ field_count g → (kept f ≡ true → LeadsBack g phi f) × (LeadsBack g phi f → kept f ≡ true)

-- for each struct the structs to which its owning fields lead
pub record AreLeads (g : FlowGraph) (phi : List Bool) (lists : List (List ℕ)) : Type 0 where
  pub count : length lists ≡ length g.structs
  pub each : (s z : ℕ) → Contains (slice_index_or lists s []) z ↔ Leads g phi s z
  pub within : (s z : ℕ) → Leads g phi s z → (s < length g.structs) × (z < length g.structs)

-- the struct to which a field leads that owns
abbrev pub lead_of : FlowGraph → List Bool → ℕ → Option ℕ
lead_of g phi f = cond (field_owns phi f) (field_target g f) None

-- whether it leads back, by marks of which two are equal where each of the two structs leads to the other
abbrev pub leads_back : FlowGraph → List Bool → List ℕ → ℕ → Bool
leads_back g phi marks f = option_map_or (λ z. nat_eq (mark_at marks z) (mark_at marks (field_owner g f))) (lead_of g phi f) false

-- lists by struct, and in that of the field's struct where it leads
abbrev pub with_lead : FlowGraph → List Bool → ℕ → List (List ℕ) → List (List ℕ)
with_lead g phi f lists =
    option_map_or (λ z. slice_set lists (field_owner g f) (slice_index_or lists (field_owner g f) [] ++ z ∷ [])) (lead_of g phi f) lists
