-- Which variables are visible, and which slots they have.
use Rattle.std.specs.Prelude.{ℕ, List, [], ◌∷◌, ◌++◌, length, Bool, true, false, Option, Some, None, slice_get, option_map, option_and_then, nat_le, bytes_eq, if◌then◌else◌}
use Rattle.std.specs.Option.{option_map_or}
use Rattle.c_tree.specs.declared.position.Span.{Span}
use Rattle.c_tree.specs.declared.tree.Member.{Member}
use Rattle.c_types.specs.declared.kinds.SlotType.{SlotType}
use Rattle.c_types.specs.declared.infos.SlotInfo.{SlotInfo}
use Rattle.c_types.specs.declared.scope.Scope.{Scope}
use Rattle.c_types.specs.Types.{slot_type}

abbrev pub no_scope : Scope
no_scope = record { slots = []; visible = []; outer = 0 }

abbrev pub or_else : Option ℕ → Option ℕ → Option ℕ
or_else (Some k) o = Some k
or_else None o = o

-- the slot of this number has that name
abbrev pub is_named : List SlotInfo → ℕ → List ℕ → Bool
is_named slots i x = option_map_or (λ v. bytes_eq v.name x) (slice_get slots i) false

-- the last of these slots that has the name
abbrev pub last_named : List SlotInfo → List ℕ → List ℕ → Option ℕ
last_named slots [] x = None
last_named slots (i ∷ is) x = or_else (last_named slots is x) (if is_named slots i x then Some i else None)

-- the slot that a name means
abbrev pub slot_in : Scope → List ℕ → Option ℕ
slot_in s x = last_named s.slots s.visible x

abbrev pub slot_kind : Scope → ℕ → Option SlotType
slot_kind s i = option_map (λ v. v.kind) (slice_get s.slots i)

-- its type
abbrev pub kind_in : Scope → List ℕ → Option SlotType
kind_in s x = option_and_then (slot_kind s) (slot_in s x)

-- a slot more, which is no variable
abbrev pub with_slot : Scope → List ℕ → SlotType → Span → Scope
with_slot s x k at = record {
  slots = s.slots ++ record { name = x; kind = k; at = at } ∷ [];
  visible = s.visible;
  outer = s.outer;
}

-- a variable more
abbrev pub declared : Scope → List ℕ → SlotType → Span → Scope
declared s x k at = record {
  slots = s.slots ++ record { name = x; kind = k; at = at } ∷ [];
  visible = s.visible ++ length s.slots ∷ [];
  outer = s.outer;
}

-- a scope in this one
abbrev pub entered : Scope → Scope
entered s = record { slots = s.slots; visible = s.visible; outer = length s.slots }

-- this scope again, after what stands in it
abbrev pub left : Scope → Scope → Scope
left s inner = record { slots = inner.slots; visible = s.visible; outer = s.outer }

-- 5: the names that one scope declares differ
abbrev pub breaks_5 : Scope → List ℕ → Bool
breaks_5 s x = option_map_or (λ i. nat_le s.outer i) (slot_in s x) false

-- a parameter without a name declares none
abbrev pub is_empty : List ℕ → Bool
is_empty [] = true
is_empty (b ∷ bs) = false

abbrev pub with_param : List (List ℕ) → Scope → Member → Scope
with_param tags s m =
    if is_empty m.name then with_slot s m.name (slot_type tags m.kind) m.at
    else declared s m.name (slot_type tags m.kind) m.at

abbrev pub with_params : List (List ℕ) → Scope → List Member → Scope
with_params tags s [] = s
with_params tags s (m ∷ ms) = with_params tags (with_param tags s m) ms
