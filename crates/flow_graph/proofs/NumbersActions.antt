-- An action that fits the types of its slots fits them by their numbers too.
use Rattle.std.proofs.Common.{◌≡◌, ℕ, false, List, [], ◌∷◌, ◌++◌, length, map, nat_eq, Option, Some, None, option_map, refl}
use Rattle.std.specs.Prelude.{⊤, slice_get}
use Rattle.std.specs.List.{All}
use Rattle.std.proofs.lemmas.Bool.{or_parts, or_from, ne_eqb}
use Rattle.std.proofs.lemmas.List.Elements.{All-head, All-tail}
use Rattle.std.proofs.lemmas.Option.{slice_get_within}
use Rattle.c_types.specs.declared.kinds.SlotType.{SlotType}
use Rattle.c_types.specs.declared.kinds.SlotType.TheVariants as type
use Rattle.flow_graph.specs.declared.raw.Slot.{Slot}
use Rattle.flow_graph.specs.declared.raw.RawAction.{RawAction}
use Rattle.flow_graph.specs.declared.raw.RawAction.TheVariants as raw
use Rattle.flow_graph.specs.FlowGraph.{FlowGraph, flow_of}
use Rattle.flow_graph.specs.Fits.{ConstantFits, HasInteger, HasPointer, HasArray, HaveOneType, HasMember, HasIntegerMember, HasPointerMember, HasPointerMemberOf, CountFits, is_in, AreDifferent, ArgsFit, ResultFits, IsApart, CallFits, ActionFits, is_test, other_side}
use Rattle.flow_graph.specs.Numbers.{Numbering, slots_in, option_list, slot_number, count_number, action_number}
use Rattle.flow_graph.proofs.RawFits.{kind_of, IsInteger, IsPointer, IsArray, HaveOneKind, LeadsTo, LeadsToInteger, LeadsToPointer, LeadsToKindOf, RawCountFits, same_slot, is_among, AreApart, RawArgsFit, RawResultFits, RawIsApart, RawCallFits, RawActionFits}
use Rattle.flow_graph.proofs.RawWays.{raw_is_test, raw_other_side}

-- Tests

pub is_test-number : (ns : Numbering) (a : RawAction) → is_test (action_number ns a) ≡ raw_is_test a
is_test-number ns raw.Skip = refl
is_test-number ns (raw.Set x c) = refl
is_test-number ns (raw.Move x a) = refl
is_test-number ns (raw.Unset x) = refl
is_test-number ns (raw.Null x) = refl
is_test-number ns (raw.Text x n) = refl
is_test-number ns (raw.Copy x y) = refl
is_test-number ns (raw.Neg x a) = refl
is_test-number ns (raw.Arith x op a b) = refl
is_test-number ns (raw.Get x y f) = refl
is_test-number ns (raw.Load x y f) = refl
is_test-number ns (raw.At x y i) = refl
is_test-number ns (raw.New x zeroed kind c) = refl
is_test-number ns (raw.Free x) = refl
is_test-number ns (raw.Store y f x) = refl
is_test-number ns (raw.Put y f x) = refl
is_test-number ns (raw.PutAt y i x) = refl
is_test-number ns (raw.IsNull x) = refl
is_test-number ns (raw.NotNull x) = refl
is_test-number ns (raw.FieldNull y f) = refl
is_test-number ns (raw.FieldSet y f) = refl
is_test-number ns (raw.NonZero x) = refl
is_test-number ns (raw.Zero x) = refl
is_test-number ns (raw.Equal x y) = refl
is_test-number ns (raw.Differ x y) = refl
is_test-number ns (raw.Call r callee us) = refl

pub other_side-number : (ns : Numbering) (a : RawAction) → other_side (action_number ns a) ≡ option_map (action_number ns) (raw_other_side a)
other_side-number ns raw.Skip = refl
other_side-number ns (raw.Set x c) = refl
other_side-number ns (raw.Move x a) = refl
other_side-number ns (raw.Unset x) = refl
other_side-number ns (raw.Null x) = refl
other_side-number ns (raw.Text x n) = refl
other_side-number ns (raw.Copy x y) = refl
other_side-number ns (raw.Neg x a) = refl
other_side-number ns (raw.Arith x op a b) = refl
other_side-number ns (raw.Get x y f) = refl
other_side-number ns (raw.Load x y f) = refl
other_side-number ns (raw.At x y i) = refl
other_side-number ns (raw.New x zeroed kind c) = refl
other_side-number ns (raw.Free x) = refl
other_side-number ns (raw.Store y f x) = refl
other_side-number ns (raw.Put y f x) = refl
other_side-number ns (raw.PutAt y i x) = refl
other_side-number ns (raw.IsNull x) = refl
other_side-number ns (raw.NotNull x) = refl
other_side-number ns (raw.FieldNull y f) = refl
other_side-number ns (raw.FieldSet y f) = refl
other_side-number ns (raw.NonZero x) = refl
other_side-number ns (raw.Zero x) = refl
other_side-number ns (raw.Equal x y) = refl
other_side-number ns (raw.Differ x y) = refl
other_side-number ns (raw.Call r callee us) = refl

-- Slots

-- each slot of a list is known
abbrev pub AreKnown : (Slot → Type 0) → List Slot → Type 0
AreKnown Known [] = ⊤
AreKnown Known (x ∷ xs) = Known x × AreKnown Known xs

pub known_by-All : (Known : Slot → Type 0) (xs : List Slot) → All Known xs → AreKnown Known xs
known_by-All Known [] all = tt
known_by-All Known (x ∷ xs) all = (All-head Known x xs all, known_by-All Known xs (All-tail Known x xs all))

-- what numbers of known slots keep
pub record KeepsSlots (ns : Numbering) (vs ts : List SlotType) (Known : Slot → Type 0) : Type 0 where
  pub kind : (x : Slot) (t : SlotType) → Known x → kind_of vs x ≡ Some t → slice_get ts (slot_number ns x) ≡ Some t
  pub apart : (x y : Slot) (t u : SlotType) → Known x → Known y → kind_of vs x ≡ Some t → kind_of vs y ≡ Some u
      → same_slot (length vs) x y ≡ false → slot_number ns x ≡ slot_number ns y → ⊥

module _ (g : FlowGraph) (ns : Numbering) (vs ts : List SlotType) (Known : Slot → Type 0) (keeps : KeepsSlots ns vs ts Known) where
  integer : (x : Slot) → Known x → IsInteger vs x → HasInteger ts (slot_number ns x)
  integer x known h = record { type = h.type; is = keeps.kind x h.type known h.is; integer = h.integer }

  pointer : (x : Slot) → Known x → IsPointer vs x → HasPointer ts (slot_number ns x)
  pointer x known h = record { type = h.type; is = keeps.kind x h.type known h.is; pointer = h.pointer }

  array : (x : Slot) → Known x → IsArray vs x → HasArray ts (slot_number ns x)
  array x known h = record { type = h.type; is = keeps.kind x h.type known h.is; array = h.array }

  one_type : (x y : Slot) → Known x → Known y → HaveOneKind vs x y → HaveOneType ts (slot_number ns x) (slot_number ns y)
  one_type x y known also h = record { type = h.type; first = keeps.kind x h.type known h.first; second = keeps.kind y h.type also h.second; pointer = h.pointer }

  member : (y : Slot) (f : ℕ) (t : SlotType) → Known y → LeadsTo g vs y f t → HasMember g ts (slot_number ns y) f t
  member y f t known h = record { structure = h.structure; base = keeps.kind y (type.StructPtr h.structure) known h.base; member = h.member }

  integer_member : (y : Slot) (f : ℕ) → Known y → LeadsToInteger g vs y f → HasIntegerMember g ts (slot_number ns y) f
  integer_member y f known h = record { type = h.type; has = member y f h.type known h.leads; integer = h.integer }

  pointer_member : (y : Slot) (f : ℕ) → Known y → LeadsToPointer g vs y f → HasPointerMember g ts (slot_number ns y) f
  pointer_member y f known h = record { type = h.type; has = member y f h.type known h.leads; pointer = h.pointer }

  member_of : (y : Slot) (f : ℕ) (x : Slot) → Known y → Known x → LeadsToKindOf g vs y f x → HasPointerMemberOf g ts (slot_number ns y) f (slot_number ns x)
  member_of y f x known also h =
      record { type = h.type; has = member y f h.type known h.leads; pointer = h.pointer; slot = keeps.kind x h.type also h.slot }

  count : (c : Option Slot) → AreKnown Known (option_list c) → RawCountFits vs c → CountFits ts (count_number ns c)
  count None known fit = tt
  count (Some c) known fit = integer c known.0 fit

  -- Calls

  args : (us : List Slot) (ps : List SlotType) → AreKnown Known us → RawArgsFit vs us ps → ArgsFit ts (map (slot_number ns) us) ps
  args [] [] known fit = tt
  args (u ∷ us) (p ∷ ps) known fit =
      (record { type = fit.0.type; is = keeps.kind u fit.0.type known.0 fit.0.is; goes = fit.0.goes }, args us ps known.1 fit.1)
  args [] (p ∷ ps) known fit = absurd fit
  args (u ∷ us) [] known fit = absurd fit

  -- a slot that is none of the arguments has the number of none
  apart_from : (us : List Slot) (ps : List SlotType) (x : Slot) (t : SlotType) → AreKnown Known us → RawArgsFit vs us ps → Known x → kind_of vs x ≡ Some t
      → is_among (length vs) us x ≡ false → is_in (map (slot_number ns) us) (slot_number ns x) ≡ false
  apart_from [] ps x t known fit also kind none = refl
  apart_from (u ∷ us) [] x t known fit also kind none = absurd fit
  apart_from (u ∷ us) (p ∷ ps) x t known fit also kind none =
      let parts = or_parts (same_slot (length vs) x u) (is_among (length vs) us x) none in
      or_from (nat_eq (slot_number ns x) (slot_number ns u)) (is_in (map (slot_number ns) us) (slot_number ns x))
      (ne_eqb (slot_number ns x) (slot_number ns u) (keeps.apart x u t fit.0.type also known.0 kind fit.0.is parts.0))
      (apart_from us ps x t known.1 fit.1 also kind parts.1)

  different : (us : List Slot) (ps : List SlotType) → AreKnown Known us → RawArgsFit vs us ps → AreApart (length vs) us → AreDifferent (map (slot_number ns) us)
  different [] ps known fit apart = tt
  different (u ∷ us) [] known fit apart = absurd fit
  different (u ∷ us) (p ∷ ps) known fit apart =
      (apart_from us ps u fit.0.type known.1 fit.1 known.0 fit.0.is apart.0, different us ps known.1 fit.1 apart.1)

  result : (r : Option Slot) (o : Option SlotType) → AreKnown Known (option_list r) → RawResultFits vs r o → ResultFits ts (option_map (slot_number ns) r) o
  result None None known fit = tt
  result (Some x) (Some t) known fit = (fit.0, keeps.kind x fit.0 known.0 fit.1, fit.2)
  result None (Some t) known fit = absurd fit
  result (Some x) None known fit = absurd fit

  result_apart : (us : List Slot) (ps : List SlotType) (r : Option Slot) (o : Option SlotType) → AreKnown Known us → RawArgsFit vs us ps → AreKnown Known (option_list r) → RawResultFits vs r o
      → RawIsApart (length vs) us r → IsApart (map (slot_number ns) us) (option_map (slot_number ns) r)
  result_apart us ps None o known fit also goes none = tt
  result_apart us ps (Some x) None known fit also goes none = absurd goes
  result_apart us ps (Some x) (Some t) known fit also goes none = apart_from us ps x goes.0 known fit also.0 goes.1 none

  known_result : (r : Option Slot) (us : List Slot) → AreKnown Known (option_list r ++ us) → AreKnown Known (option_list r)
  known_result None us known = tt
  known_result (Some x) us known = (known.0, tt)

  known_args : (r : Option Slot) (us : List Slot) → AreKnown Known (option_list r ++ us) → AreKnown Known us
  known_args None us known = known
  known_args (Some x) us known = known.1

  call : (r : Option Slot) (callee : ℕ) (us : List Slot) → AreKnown Known (option_list r ++ us) → RawCallFits g vs r callee us
      → CallFits g ts (option_map (slot_number ns) r) callee (map (slot_number ns) us)
  call r callee us known fit =
      let first = known_result r us known in
      let rest = known_args r us known in
      record {
        exists = fit.exists;
        args = args us (flow_of g callee).params rest fit.args;
        different = different us (flow_of g callee).params rest fit.args fit.different;
        result = result r (flow_of g callee).result first fit.result;
        apart = result_apart us (flow_of g callee).params r (flow_of g callee).result rest fit.args first fit.result fit.apart;
      }

  -- Actions

  pub action_fits : (a : RawAction) → AreKnown Known (slots_in a) → RawActionFits g vs ns.texts a → ConstantFits (action_number ns a) → ActionFits g ts (action_number ns a)
  action_fits raw.Skip known fit constant = tt
  action_fits (raw.Set x c) known fit constant = (integer x known.0 fit, constant)
  action_fits (raw.Move x a) known fit constant = (integer x known.0 fit.0, integer a known.1.0 fit.1)
  action_fits (raw.Unset x) known fit constant = slice_get_within ts (slot_number ns x) fit.0 (keeps.kind x fit.0 known.0 fit.1)
  action_fits (raw.Null x) known fit constant = pointer x known.0 fit
  action_fits (raw.Text x n) known fit constant = (keeps.kind x type.CharPtr known.0 fit.0, fit.1)
  action_fits (raw.Copy x y) known fit constant =
      (keeps.apart x y fit.1.type fit.1.type known.0 known.1.0 fit.1.first fit.1.second fit.0, one_type x y known.0 known.1.0 fit.1)
  action_fits (raw.Neg x a) known fit constant = (integer x known.0 fit.0, integer a known.1.0 fit.1)
  action_fits (raw.Arith x op a b) known fit constant = (integer x known.0 fit.0, integer a known.1.0 fit.1, integer b known.1.1.0 fit.2)
  action_fits (raw.Get x y f) known fit constant = (integer x known.0 fit.0, integer_member y f known.1.0 fit.1)
  action_fits (raw.Load x y f) known fit constant =
      (keeps.apart x y fit.1.type (type.StructPtr fit.1.leads.structure) known.0 known.1.0 fit.1.slot fit.1.leads.base fit.0, member_of y f x known.1.0 known.0 fit.1)
  action_fits (raw.At x y i) known fit constant = (integer x known.0 fit.0, array y known.1.0 fit.1, integer i known.1.1.0 fit.2)
  action_fits (raw.New x zeroed kind c) known fit constant = (keeps.kind x _ known.0 fit.0, count c known.1 fit.1)
  action_fits (raw.Free x) known fit constant = pointer x known.0 fit
  action_fits (raw.Store y f x) known fit constant = member_of y f x known.0 known.1.0 fit
  action_fits (raw.Put y f x) known fit constant = (integer_member y f known.0 fit.0, integer x known.1.0 fit.1)
  action_fits (raw.PutAt y i x) known fit constant = (array y known.0 fit.0, integer i known.1.0 fit.1, integer x known.1.1.0 fit.2)
  action_fits (raw.IsNull x) known fit constant = pointer x known.0 fit
  action_fits (raw.NotNull x) known fit constant = pointer x known.0 fit
  action_fits (raw.FieldNull y f) known fit constant = pointer_member y f known.0 fit
  action_fits (raw.FieldSet y f) known fit constant = pointer_member y f known.0 fit
  action_fits (raw.NonZero x) known fit constant = integer x known.0 fit
  action_fits (raw.Zero x) known fit constant = integer x known.0 fit
  action_fits (raw.Equal x y) known fit constant = one_type x y known.0 known.1.0 fit
  action_fits (raw.Differ x y) known fit constant = one_type x y known.0 known.1.0 fit
  action_fits (raw.Call r callee us) known fit constant = call r callee us known fit
