-- The rules on fields: on each edge and at each place, in order of rule, slot, field and other.
use Rattle.std.specs.Prelude.{ℕ, Bool, false, cond, not, ◌&&◌, ◌||◌, nat_eq, nat_lt, List, [], ◌∷◌, ◌++◌, map, Option, Some, None}
use Rattle.std.specs.List.{flat_map}
use Rattle.field_rules.specs.declared.rules.FieldRule.{FieldRule}
use Rattle.field_rules.specs.declared.rules.FieldRule.TheVariants as rule
use Rattle.field_rules.specs.declared.rules.CallClosed.TheVariants as closed
use Rattle.field_rules.specs.declared.edges.CallArg.{CallArg}
use Rattle.field_rules.specs.declared.edges.FieldEdge.{FieldEdge}
use Rattle.field_rules.specs.declared.edges.FieldEdge.TheVariants as edge
use Rattle.field_rules.specs.declared.edges.FieldLine.{FieldLine}
use Rattle.field_rules.specs.Lists.{gather, when}
use Rattle.field_rules.specs.Sight.{Sight, leads_to, fields_to, over_range, over_fields}

abbrev pub line : FieldRule → ℕ → ℕ → ℕ → List FieldLine
line r slot field other = record { rule = r; slot = slot; field = field; other = other } ∷ []

-- the slot is an argument
abbrev pub is_arg : List CallArg → ℕ → Bool
is_arg [] y = false
is_arg (a ∷ us) y = nat_eq a.slot y || is_arg us y

-- On an edge from p to q

-- the ownership that is taken out of the field comes to x
abbrev pub load_lines : Sight → ℕ → ℕ → ℕ → ℕ → ℕ → List FieldLine
load_lines v p q x y f = line (rule.Load (record { rho_q = v.rho q x; omega_p = v.omega p y f; omega_q = v.omega q y f })) x f y

-- a field that owns is open where it is written
abbrev pub store_open_lines : Sight → ℕ → ℕ → ℕ → List FieldLine
store_open_lines v p y f = line (rule.StoreOpen (record { omega_p = v.omega p y f; phi = v.phi f })) y f 0

-- the ownership of x goes into the field, or stays where it was
abbrev pub store_lines : Sight → ℕ → ℕ → ℕ → ℕ → ℕ → List FieldLine
store_lines v p q y f x =
    when (not (v.empty p x)) (line (rule.Store (record { rho_q = v.rho q x; phi = v.phi f; rho_p = v.rho p x; omega_q = v.omega q y f })) x f y)

-- exactly the fields that own are open where their object is freed
abbrev pub free_field_line : Sight → ℕ → ℕ → ℕ → List FieldLine
free_field_line v p x f = line (rule.FreeField (record { omega_p = v.omega p x f; phi = v.phi f })) x f 0

abbrev pub free_field_lines : Sight → ℕ → ℕ → List FieldLine
free_field_lines v p x = when (not (v.empty p x)) (over_fields v (v.structure x) (free_field_line v p x))

-- that the fields that point to a struct own
abbrev pub phis_to : Sight → ℕ → List ℕ
phis_to v s = map v.phi (fields_to v s)

-- what each live argument of the struct's type gives
abbrev pub sigma_to : Sight → ℕ → ℕ → CallArg → List (Option ℕ)
sigma_to v p s a = when (leads_to (v.structure a.slot) s && not (v.empty p a.slot)) (a.sigma ∷ [])

abbrev pub sigmas_to : Sight → List CallArg → ℕ → ℕ → List (Option ℕ)
sigmas_to v us p s = flat_map (sigma_to v p s) us

-- no field is open through a live argument
abbrev pub argument_line : Sight → ℕ → ℕ → ℕ → List FieldLine
argument_line v p y f = line (rule.CallClosed (closed.Argument (v.omega p y f))) y f 0

abbrev pub argument_lines : Sight → ℕ → ℕ → List FieldLine
argument_lines v p y = when (not (v.empty p y)) (over_fields v (v.structure y) (argument_line v p y))

-- a field that is open through another slot is out of the call's reach: the slot owns the object, all fields that
-- point to such objects own, and so do all live arguments
abbrev pub sealed_line : Sight → ℕ → ℕ → List ℕ → List (Option ℕ) → ℕ → List FieldLine
sealed_line v p y phis sigmas f = line (rule.CallClosed (closed.Slot (v.omega p y f) (v.rho p y) phis sigmas)) y f 0

abbrev pub sealed_lines : Sight → List CallArg → ℕ → ℕ → Option ℕ → List FieldLine
sealed_lines v us p y None = []
sealed_lines v us p y (Some s) = over_range (v.fields_of s) (sealed_line v p y (phis_to v s) (sigmas_to v us p s))

abbrev pub call_lines : Sight → List CallArg → ℕ → ℕ → List FieldLine
call_lines v us p y = cond (is_arg us y) (argument_lines v p y) (when (not (v.fresh p y)) (sealed_lines v us p y (v.structure y)))

abbrev pub edge_lines : Sight → FieldEdge → ℕ → ℕ → List FieldLine
edge_lines v (edge.Load x y f) p q = load_lines v p q x y f
edge_lines v (edge.Store y f x) p q = store_open_lines v p y f ++ store_lines v p q y f x
edge_lines v (edge.Free x) p q = free_field_lines v p x
edge_lines v (edge.Call us) p q = gather v.slots (call_lines v us p)

-- At a place p

-- only a field that owns is open
abbrev pub bound_line : Sight → ℕ → ℕ → ℕ → List FieldLine
bound_line v p y f = line (rule.Bound (record { omega_p = v.omega p y f; phi = v.phi f })) y f 0

abbrev pub bound_lines : Sight → ℕ → ℕ → List FieldLine
bound_lines v p y = over_fields v (v.structure y) (bound_line v p y)

-- the later slots that point to this struct and are not Fresh
abbrev pub is_other : Sight → ℕ → ℕ → ℕ → ℕ → Bool
is_other v p y s z = (nat_lt y z && leads_to (v.structure z) s) && not (v.fresh p z)

abbrev pub other : Sight → ℕ → ℕ → ℕ → ℕ → List ℕ
other v p y s z = when (is_other v p y s z) (z ∷ [])

abbrev pub others : Sight → ℕ → ℕ → ℕ → List ℕ
others v p y s = gather v.slots (other v p y s)

-- the same by struct: all slots that point to it and are not Fresh, and those of them after y
abbrev pub base_at : Sight → ℕ → ℕ → ℕ → List ℕ
base_at v p s z = when (leads_to (v.structure z) s && not (v.fresh p z)) (z ∷ [])

abbrev pub bases_at : Sight → ℕ → ℕ → List ℕ
bases_at v p s = gather v.slots (base_at v p s)

abbrev pub later : ℕ → ℕ → List ℕ
later y z = when (nat_lt y z) (z ∷ [])

-- a field is open through one slot of two that are not Fresh
abbrev pub one_base_line : Sight → ℕ → ℕ → ℕ → ℕ → List FieldLine
one_base_line v p y f z = line (rule.OneBase (record { first = v.omega p y f; second = v.omega p z f })) y f z

abbrev pub base_line : Sight → ℕ → ℕ → List ℕ → ℕ → List FieldLine
base_line v p y zs f = flat_map (one_base_line v p y f) zs

abbrev pub base_lines : Sight → ℕ → ℕ → Option ℕ → List FieldLine
base_lines v p y None = []
base_lines v p y (Some s) = over_range (v.fields_of s) (base_line v p y (others v p y s))

abbrev pub one_base_lines : Sight → ℕ → ℕ → List FieldLine
one_base_lines v p y = when (not (v.fresh p y)) (base_lines v p y (v.structure y))

-- the same of a slot and one other slot alone
abbrev pub pair_of : Sight → ℕ → ℕ → ℕ → Option ℕ → List FieldLine
pair_of v p y z None = []
pair_of v p y z (Some s) = over_range (v.fields_of s) (base_line v p y (other v p y s z))

abbrev pub pair_lines : Sight → ℕ → ℕ → ℕ → List FieldLine
pair_lines v p y z = when (not (v.fresh p y)) (pair_of v p y z (v.structure y))

abbrev pub place_lines : Sight → ℕ → List FieldLine
place_lines v p = gather v.slots (bound_lines v p) ++ gather v.slots (one_base_lines v p)
