-- Parts of a flow graph before slots and places have numbers: where a part begins, and its edges.
use Rattle.std.specs.Prelude.{ℕ, ◌-◌, List, [], ◌∷◌, ◌++◌, Bool, false, Option, unwrap_or, option_and_then, slice_get, nat_eq}
use Rattle.c_tree.specs.declared.position.Place.{Place}
use Rattle.c_types.specs.declared.kinds.SlotType.{SlotType}
use Rattle.c_types.specs.declared.kinds.SlotType.TheVariants as type
use Rattle.c_types.specs.declared.infos.NodeInfo.{NodeInfo}
use Rattle.flow_graph.specs.declared.raw.Slot.{Slot}
use Rattle.flow_graph.specs.declared.raw.Slot.TheVariants as slot
use Rattle.flow_graph.specs.declared.raw.RawAction.{RawAction}
use Rattle.flow_graph.specs.declared.raw.RawEdge.{RawEdge}
use Rattle.c_types.specs.Types.{is_pointer}

pub record Part : Type 0 where
  -- the place at which it begins
  pub start : Place
  -- some edges, and then those of this part
  pub after : List RawEdge → List RawEdge

abbrev pub edge : Place → RawAction → Place → RawEdge
edge p a q = record { from = p; action = a; to = q }

-- nothing but going on at q
abbrev pub ending : Place → Part
ending q = record { start = q; after = λ es. es }

-- one edge, from p to q
abbrev pub one : Place → RawAction → Place → Part
one p a q = record { start = p; after = λ es. es ++ edge p a q ∷ [] }

-- the two sides of a test at p, each with the place to which it leads
abbrev pub two : Place → RawAction → Place → RawAction → Place → Part
two p a q b r = record { start = p; after = λ es. es ++ edge p a q ∷ [] ++ edge p b r ∷ [] }

-- a part that goes on where another begins; the edges of the later part stand first
abbrev pub before : Part → Part → Part
before l r = record { start = l.start; after = λ es. l.after (r.after es) }

-- one thing after another, and then on to q
abbrev pub in_turn : (Place → Part) → (Place → Part) → Place → Part
in_turn a b q = before (a (b q).start) (b q)

-- What is known of the nodes, by their numbers

abbrev pub kind_at : List NodeInfo → ℕ → Option SlotType
kind_at is n = option_and_then (λ i. i.kind) (slice_get is n)

-- the type of the node's value; Int where it has none
abbrev pub type_at : List NodeInfo → ℕ → SlotType
type_at is n = unwrap_or (kind_at is n) type.Int

-- the slot, procedure or member that the node names
abbrev pub refers_at : List NodeInfo → ℕ → ℕ
refers_at is n = unwrap_or (option_and_then (λ i. i.refers) (slice_get is n)) 0

abbrev pub is_pointer_at : List NodeInfo → ℕ → Bool
is_pointer_at is n = is_pointer (type_at is n)

-- the variable that a node names
abbrev pub var_at : List NodeInfo → ℕ → Slot
var_at is n = slot.Var (refers_at is n)

-- the temporary of node n, in a statement whose first expression node is `base`
abbrev pub temp : List NodeInfo → ℕ → ℕ → Slot
temp is base n = slot.Temp (n - base) (type_at is n)

-- one variable; a temporary is written for its own node alone
abbrev pub same_var : Slot → Slot → Bool
same_var (slot.Var x) (slot.Var y) = nat_eq x y
same_var _ _ = false
