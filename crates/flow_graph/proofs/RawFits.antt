-- What the edges of a body keep of types before its slots and places have numbers.
use Rattle.std.specs.Prelude.{◌≡◌, ℕ, ◌-◌, ◌<◌, Bool, true, false, ◌||◌, ⊤, List, [], ◌∷◌, length, Option, Some, None, nat_eq, slice_get, slice_index_or}
use Rattle.std.specs.List.{All}
use Rattle.c_types.specs.declared.kinds.SlotType.{SlotType}
use Rattle.c_types.specs.declared.kinds.SlotType.TheVariants as type
use Rattle.flow_graph.specs.declared.raw.Slot.{Slot}
use Rattle.flow_graph.specs.declared.raw.Slot.TheVariants as slot
use Rattle.flow_graph.specs.declared.raw.RawAction.{RawAction}
use Rattle.flow_graph.specs.declared.raw.RawAction.TheVariants as act
use Rattle.flow_graph.specs.declared.raw.RawEdge.{RawEdge}
use Rattle.c_types.specs.Types.{is_pointer}
use Rattle.flow_graph.specs.FlowGraph.{FlowGraph, flow_of, members_of}
use Rattle.c_types.specs.Fits.{is_array}
use Rattle.flow_graph.specs.Fits.{made_type, GoesTo, TypeExists}
use Rattle.flow_graph.specs.Numbers.{slots_in}
use Rattle.flow_graph.specs.Parts.{Part}

-- the type of a slot, where the parameters, the locals and the result have these types
abbrev pub kind_of : List SlotType → Slot → Option SlotType
kind_of vs (slot.Var x) = slice_get vs x
kind_of vs slot.Ret = slice_get vs (length vs - 1)
kind_of vs (slot.Temp k t) = Some t

pub record IsInteger (vs : List SlotType) (x : Slot) : Type 0 where
  pub type : SlotType
  pub is : kind_of vs x ≡ Some type
  pub integer : is_pointer type ≡ false

pub record IsPointer (vs : List SlotType) (x : Slot) : Type 0 where
  pub type : SlotType
  pub is : kind_of vs x ≡ Some type
  pub pointer : is_pointer type ≡ true

pub record IsArray (vs : List SlotType) (x : Slot) : Type 0 where
  pub type : SlotType
  pub is : kind_of vs x ≡ Some type
  pub array : is_array type ≡ true

-- two slots of one pointer type
pub record HaveOneKind (vs : List SlotType) (x y : Slot) : Type 0 where
  pub type : SlotType
  pub first : kind_of vs x ≡ Some type
  pub second : kind_of vs y ≡ Some type
  pub pointer : is_pointer type ≡ true

-- the slot y is a pointer to a struct whose member f has this type
pub record LeadsTo (g : FlowGraph) (vs : List SlotType) (y : Slot) (f : ℕ) (t : SlotType) : Type 0 where
  pub structure : ℕ
  pub base : kind_of vs y ≡ Some (type.StructPtr structure)
  pub member : slice_get (members_of g structure) f ≡ Some t

pub record LeadsToInteger (g : FlowGraph) (vs : List SlotType) (y : Slot) (f : ℕ) : Type 0 where
  pub type : SlotType
  pub leads : LeadsTo g vs y f type
  pub integer : is_pointer type ≡ false

pub record LeadsToPointer (g : FlowGraph) (vs : List SlotType) (y : Slot) (f : ℕ) : Type 0 where
  pub type : SlotType
  pub leads : LeadsTo g vs y f type
  pub pointer : is_pointer type ≡ true

-- the same, and the slot x has the type of that member
pub record LeadsToKindOf (g : FlowGraph) (vs : List SlotType) (y : Slot) (f : ℕ) (x : Slot) : Type 0 where
  pub type : SlotType
  pub leads : LeadsTo g vs y f type
  pub pointer : is_pointer type ≡ true
  pub slot : kind_of vs x ≡ Some type

abbrev pub RawCountFits : List SlotType → Option Slot → Type 0
RawCountFits vs None = ⊤
RawCountFits vs (Some c) = IsInteger vs c

-- whether two slots may get one number, where there are n parameters, locals and results; temporaries of two positions
-- get two
abbrev pub same_slot : ℕ → Slot → Slot → Bool
same_slot n (slot.Var x) (slot.Var y) = nat_eq x y
same_slot n (slot.Var x) slot.Ret = nat_eq x (n - 1)
same_slot n slot.Ret (slot.Var y) = nat_eq (n - 1) y
same_slot n slot.Ret slot.Ret = true
same_slot n (slot.Temp k t) (slot.Temp l u) = nat_eq k l
same_slot n (slot.Temp k t) (slot.Var y) = false
same_slot n (slot.Temp k t) slot.Ret = false
same_slot n (slot.Var x) (slot.Temp l u) = false
same_slot n slot.Ret (slot.Temp l u) = false

abbrev pub is_among : ℕ → List Slot → Slot → Bool
is_among n [] x = false
is_among n (u ∷ us) x = same_slot n x u || is_among n us x

abbrev pub AreApart : ℕ → List Slot → Type 0
AreApart n [] = ⊤
AreApart n (u ∷ us) = (is_among n us u ≡ false) × AreApart n us

pub record RawSlotGoesTo (vs : List SlotType) (u : Slot) (t : SlotType) : Type 0 where
  pub type : SlotType
  pub is : kind_of vs u ≡ Some type
  pub goes : GoesTo type t

abbrev pub RawArgsFit : List SlotType → List Slot → List SlotType → Type 0
RawArgsFit vs [] [] = ⊤
RawArgsFit vs (u ∷ us) (p ∷ ps) = RawSlotGoesTo vs u p × RawArgsFit vs us ps
RawArgsFit vs _ _ = ⊥

abbrev pub RawResultFits : List SlotType → Option Slot → Option SlotType → Type 0
RawResultFits vs None None = ⊤
RawResultFits vs (Some x) (Some t) = (s : SlotType) × (kind_of vs x ≡ Some s) × GoesTo t s
RawResultFits vs _ _ = ⊥

abbrev pub RawIsApart : ℕ → List Slot → Option Slot → Type 0
RawIsApart n us None = ⊤
RawIsApart n us (Some x) = is_among n us x ≡ false

pub record RawCallFits (g : FlowGraph) (vs : List SlotType) (r : Option Slot) (callee : ℕ) (us : List Slot) : Type 0 where
  pub exists : callee < length g.procs
  pub args : RawArgsFit vs us (flow_of g callee).params
  pub different : AreApart (length vs) us
  pub result : RawResultFits vs r (flow_of g callee).result
  pub apart : RawIsApart (length vs) us r

-- the slots and members of an action exist and have the types that it wants; for each node so many strings stand before it
abbrev pub RawActionFits : FlowGraph → List SlotType → List ℕ → RawAction → Type 0
RawActionFits g vs texts act.Skip = ⊤
RawActionFits g vs texts (act.Set x c) = IsInteger vs x
RawActionFits g vs texts (act.Move x a) = IsInteger vs x × IsInteger vs a
RawActionFits g vs texts (act.Unset x) = (t : SlotType) × (kind_of vs x ≡ Some t)
RawActionFits g vs texts (act.Null x) = IsPointer vs x
RawActionFits g vs texts (act.Text x n) = (kind_of vs x ≡ Some type.CharPtr) × (slice_index_or texts n 0 < length g.texts)
RawActionFits g vs texts (act.Copy x y) = (same_slot (length vs) x y ≡ false) × HaveOneKind vs x y
RawActionFits g vs texts (act.Neg x a) = IsInteger vs x × IsInteger vs a
RawActionFits g vs texts (act.Arith x op a b) = IsInteger vs x × IsInteger vs a × IsInteger vs b
RawActionFits g vs texts (act.Get x y f) = IsInteger vs x × LeadsToInteger g vs y f
RawActionFits g vs texts (act.Load x y f) = (same_slot (length vs) x y ≡ false) × LeadsToKindOf g vs y f x
RawActionFits g vs texts (act.At x y i) = IsInteger vs x × IsArray vs y × IsInteger vs i
RawActionFits g vs texts (act.New x zeroed kind count) = (kind_of vs x ≡ Some (made_type kind)) × RawCountFits vs count
RawActionFits g vs texts (act.Free x) = IsPointer vs x
RawActionFits g vs texts (act.Store y f x) = LeadsToKindOf g vs y f x
RawActionFits g vs texts (act.Put y f x) = LeadsToInteger g vs y f × IsInteger vs x
RawActionFits g vs texts (act.PutAt y i x) = IsArray vs y × IsInteger vs i × IsInteger vs x
RawActionFits g vs texts (act.IsNull x) = IsPointer vs x
RawActionFits g vs texts (act.NotNull x) = IsPointer vs x
RawActionFits g vs texts (act.FieldNull y f) = LeadsToPointer g vs y f
RawActionFits g vs texts (act.FieldSet y f) = LeadsToPointer g vs y f
RawActionFits g vs texts (act.NonZero x) = IsInteger vs x
RawActionFits g vs texts (act.Zero x) = IsInteger vs x
RawActionFits g vs texts (act.Equal x y) = HaveOneKind vs x y
RawActionFits g vs texts (act.Differ x y) = HaveOneKind vs x y
RawActionFits g vs texts (act.Call r callee us) = RawCallFits g vs r callee us

abbrev pub RawEdgeFits : FlowGraph → List SlotType → List ℕ → RawEdge → Type 0
RawEdgeFits g vs texts e = RawActionFits g vs texts e.action

-- the struct that a temporary's type names exists
abbrev pub TempExists : FlowGraph → Slot → Type 0
TempExists g (slot.Temp k t) = TypeExists g t
TempExists g _ = ⊤

abbrev pub TempsExist : FlowGraph → RawEdge → Type 0
TempsExist g e = All (TempExists g) (slots_in e.action)

-- each edge that a part adds meets this
abbrev pub Adds : (RawEdge → Type 0) → Part → Type 0
Adds P p = (es : List RawEdge) → All P es → All P (p.after es)
