-- What rules see of one procedure: its slots, the pointer fields of the program, the numbers of unknowns, and what is
-- known of its slots at its places.
use Rattle.std.specs.Prelude.{◌≡◌, ℕ, suc, ◌+◌, ◌<◌, ◌≤◌, Bool, true, false, nat_eq, List, [], ◌∷◌, Option, Some, None}
use Rattle.zo_core.specs.declared.number_range.NumberRange.{NumberRange}
use Rattle.std.specs.List.{All}
use Rattle.field_rules.specs.declared.edges.CallArg.{CallArg}
use Rattle.field_rules.specs.declared.edges.FieldEdge.{FieldEdge}
use Rattle.field_rules.specs.declared.edges.FieldEdge.TheVariants as edge
use Rattle.field_rules.specs.Lists.{gather, when}

pub record Sight : Type 0 where
  pub places : ℕ
  pub slots : ℕ
  -- the slot is a pointer
  pub pointer : ℕ → Bool
  -- the struct to which it points
  pub structure : ℕ → Option ℕ
  -- how many structs there are
  pub structs : ℕ
  -- how many pointer fields there are; they are numbered from 1
  pub fields : ℕ
  -- the struct that has a field, and the one to which the field points
  pub field_of : ℕ → ℕ
  pub field_to : ℕ → Option ℕ
  -- the fields of a struct
  pub fields_of : ℕ → NumberRange
  -- the unknowns' numbers
  pub phi : ℕ → ℕ
  pub rho : (place slot : ℕ) → ℕ
  pub omega : (place slot field : ℕ) → ℕ
  -- the facts
  pub empty : (place slot : ℕ) → Bool
  pub fresh : (place slot : ℕ) → Bool

-- the slots that are pointers
abbrev pub pointer_at : Sight → ℕ → List ℕ
pointer_at v x = when (v.pointer x) (x ∷ [])

abbrev pub pointers : Sight → List ℕ
pointers v = gather v.slots (pointer_at v)

abbrev pub leads_to : Option ℕ → ℕ → Bool
leads_to None s = false
leads_to (Some r) s = nat_eq r s

-- the fields that point to a struct
abbrev pub field_to_at : Sight → ℕ → ℕ → List ℕ
field_to_at v s j = when (leads_to (v.field_to (suc j)) s) (suc j ∷ [])

abbrev pub fields_to : Sight → ℕ → List ℕ
fields_to v s = gather v.fields (field_to_at v s)

-- something for each field of a range, or of the struct to which a slot points
abbrev pub over_range : {X : Type 0} → NumberRange → (ℕ → List X) → List X
over_range r c = gather r.count (λ j. c (r.first + j))

abbrev pub over_fields : {X : Type 0} → Sight → Option ℕ → (ℕ → List X) → List X
over_fields v None c = []
over_fields v (Some s) c = over_range (v.fields_of s) c

-- What is asked for exists

pub record HasSlot (v : Sight) (p x : ℕ) : Type 0 where
  pub place : p < v.places
  pub slot : x < v.slots

pub record HasPointer (v : Sight) (p x : ℕ) : Type 0 where
  pub place : p < v.places
  pub slot : x < v.slots
  pub pointer : v.pointer x ≡ true

abbrev pub IsField : Sight → ℕ → Type 0
IsField v f = (0 < f) × (f ≤ v.fields)

-- the slot points to a struct that has the field
pub record HasField (v : Sight) (x f : ℕ) : Type 0 where
  pub structure : ℕ
  pub is : v.structure x ≡ Some structure
  pub from : (v.fields_of structure).first ≤ f
  pub to : f < (v.fields_of structure).first + (v.fields_of structure).count

pub record HasOmega (v : Sight) (p x f : ℕ) : Type 0 where
  pub place : p < v.places
  pub slot : x < v.slots
  pub field : HasField v x f

-- what an edge from p to q speaks of exists
pub record LoadExists (v : Sight) (p q x y f : ℕ) : Type 0 where
  pub target : HasPointer v q x
  pub before : HasOmega v p y f
  pub after : HasOmega v q y f

pub record StoreExists (v : Sight) (p q x y f : ℕ) : Type 0 where
  pub field : IsField v f
  pub before : HasOmega v p y f
  pub after : HasOmega v q y f
  pub source_before : HasPointer v p x
  pub source_after : HasPointer v q x

-- the fields of a struct are fields
abbrev pub RangesExist : Sight → Type 0
RangesExist v = (s j : ℕ) → j < (v.fields_of s).count → IsField v ((v.fields_of s).first + j)

-- a slot that points to a struct is a pointer, and the struct exists
pub record PointersFit (v : Sight) : Type 0 where
  pub pointer : (x s : ℕ) → v.structure x ≡ Some s → v.pointer x ≡ true
  pub structure : (x s : ℕ) → x < v.slots → v.structure x ≡ Some s → s < v.structs

pub record FreeExists (v : Sight) (p x : ℕ) : Type 0 where
  pub slot : HasPointer v p x
  pub ranges : RangesExist v

pub record CallExists (v : Sight) (p : ℕ) (us : List CallArg) : Type 0 where
  pub place : p < v.places
  pub args : All (λ (a : CallArg). a.slot < v.slots) us
  pub pointers : PointersFit v

abbrev pub EdgeExists : Sight → FieldEdge → ℕ → ℕ → Type 0
EdgeExists v (edge.Load x y f) p q = LoadExists v p q x y f
EdgeExists v (edge.Store y f x) p q = StoreExists v p q x y f
EdgeExists v (edge.Free x) p q = FreeExists v p x
EdgeExists v (edge.Call us) p q = CallExists v p us

-- the place p exists; and what a sight keeps
pub record PlaceExists (v : Sight) (p : ℕ) : Type 0 where
  pub place : p < v.places
  pub ranges : RangesExist v
  pub pointers : PointersFit v
