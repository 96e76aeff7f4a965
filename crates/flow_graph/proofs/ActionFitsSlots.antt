-- What the parts of a body add, by how they are put together; and the slots that edges name: what they take, and that
-- what is written is none of those that are read.
use Rattle.std.proofs.Common.{◌≡◌, ◌⊎◌, ℕ, ◌-◌, ◌<◌, ◌≤◌, Bool, true, false, List, [], ◌∷◌, ◌++◌, length, Some, unwrap_or, slice_get, if◌then◌else◌, refl, sym, ap, ◌∙◌, subst, inl, inr, arith, ne_eqb, eqb-true}
use Rattle.std.specs.Prelude.{option_and_then}
use Rattle.std.proofs.lemmas.Bool.{false≢true}
use Rattle.std.proofs.lemmas.List.Elements.{All-push}
use Rattle.c_tree.specs.declared.position.Place.{Place}
use Rattle.c_types.specs.declared.kinds.SlotType.{SlotType}
use Rattle.c_types.specs.declared.kinds.SlotType.TheVariants as type
use Rattle.c_types.specs.declared.infos.NodeInfo.{NodeInfo}
use Rattle.c_types.specs.Types.{is_pointer, fits}
use Rattle.c_types.specs.Fits.{Body}
use Rattle.flow_graph.specs.declared.raw.Slot.{Slot}
use Rattle.flow_graph.specs.declared.raw.Slot.TheVariants as slot
use Rattle.flow_graph.specs.declared.raw.RawAction.{RawAction}
use Rattle.flow_graph.specs.declared.raw.RawEdge.{RawEdge}
use Rattle.flow_graph.specs.Fits.{GoesTo}
use Rattle.flow_graph.specs.Parts.{Part, edge, ending, one, two, before, in_turn, kind_at, type_at, refers_at, same_var}
use Rattle.flow_graph.proofs.RawFits.{kind_of, IsInteger, IsPointer, same_slot, Adds}
use Rattle.flow_graph.proofs.Settings.{IsGoal, Takes, TakesKind}

-- Parts

-- each edge that a part adds meets this; a record, so that the part is found from it
pub record AddsOnly (P : RawEdge → Type 0) (p : Part) : Type 0 where
  pub each : Adds P p

module _ {P : RawEdge → Type 0} where
  pub only_ending : (q : Place) → AddsOnly P (ending q)
  only_ending q = record { each = λ es h. h }

  pub only_one : (p : Place) (a : RawAction) (q : Place) → P (edge p a q) → AddsOnly P (one p a q)
  only_one p a q x = record { each = λ es h. All-push P es (edge p a q) h x }

  pub only_two : (p : Place) (a : RawAction) (q : Place) (b : RawAction) (r : Place) → P (edge p a q) → P (edge p b r) → AddsOnly P (two p a q b r)
  only_two p a q b r x y = record { each = λ es h. All-push P (es ++ edge p a q ∷ []) (edge p b r) (All-push P es (edge p a q) h x) y }

  pub only_before : {l r : Part} → AddsOnly P l → AddsOnly P r → AddsOnly P (before l r)
  only_before {l} {r} x y = record { each = λ es h. x.each (r.after es) (y.each es h) }

  pub only_in_turn : {a b : Place → Part} (q : Place) → ((q : Place) → AddsOnly P (a q)) → ((q : Place) → AddsOnly P (b q)) → AddsOnly P (in_turn a b q)
  only_in_turn {a} {b} q x y = only_before (x (b q).start) (y q)

  pub only_if : (c : Bool) {l r : Part} → (c ≡ true → AddsOnly P l) → (c ≡ false → AddsOnly P r) → AddsOnly P (if c then l else r)
  only_if true x y = x refl
  only_if false x y = y refl

-- Types

pub kind_is : (is : List NodeInfo) (n : ℕ) (t : SlotType) → kind_at is n ≡ Some t → type_at is n ≡ t
kind_is is n t e = ap (λ k. unwrap_or k type.Int) e

pub refers_is : (is : List NodeInfo) (n k : ℕ) → option_and_then (λ i. i.refers) (slice_get is n) ≡ Some k → refers_at is n ≡ k
refers_is is n k e = ap (λ o. unwrap_or o 0) e

-- one type, or two integers
pub fits_cases : (t s : SlotType) → fits t s ≡ true → (t ≡ s) ⊎ ((is_pointer t ≡ false) × (is_pointer s ≡ false))
fits_cases type.Int type.Int h = inr (refl, refl)
fits_cases type.Int type.Char h = inr (refl, refl)
fits_cases type.Char type.Int h = inr (refl, refl)
fits_cases type.Char type.Char h = inr (refl, refl)
fits_cases type.IntPtr type.IntPtr h = inl refl
fits_cases type.CharPtr type.CharPtr h = inl refl
fits_cases (type.StructPtr n) (type.StructPtr m) h = inl (ap type.StructPtr (eqb-true n m h))
fits_cases t s h = absurd (false≢true h)

both : (c : Bool) → c ≡ true → c ≡ false → ⊥
both c p q = false≢true (sym q ∙ p)

pub fits_pointer : (t s : SlotType) → fits t s ≡ true → is_pointer s ≡ true → t ≡ s
fits_pointer t s h p = elim (fits_cases t s h) [ inl e ↦ e | inr q ↦ absurd (both (is_pointer s) p q.1) ]

pub fits_target : (t s : SlotType) → fits t s ≡ true → is_pointer t ≡ true → t ≡ s
fits_target t s h p = elim (fits_cases t s h) [ inl e ↦ e | inr q ↦ absurd (both (is_pointer t) p q.0) ]

pub fits_integer : (t s : SlotType) → fits t s ≡ true → is_pointer s ≡ false → is_pointer t ≡ false
fits_integer t s h p = elim (fits_cases t s h) [ inl e ↦ ap is_pointer e ∙ p | inr q ↦ q.0 ]

pub fits_source : (t s : SlotType) → fits t s ≡ true → is_pointer t ≡ false → is_pointer s ≡ false
fits_source t s h p = elim (fits_cases t s h) [ inl e ↦ ap is_pointer (sym e) ∙ p | inr q ↦ q.1 ]

pub goes_to : (t s : SlotType) → fits t s ≡ true → GoesTo s t
goes_to t type.Int h = fits_integer t type.Int h refl
goes_to t type.Char h = fits_integer t type.Char h refl
goes_to t type.IntPtr h = sym (fits_pointer t type.IntPtr h refl)
goes_to t type.CharPtr h = sym (fits_pointer t type.CharPtr h refl)
goes_to t (type.StructPtr n) h = sym (fits_pointer t (type.StructPtr n) h refl)

pub goes_itself : (t : SlotType) → GoesTo t t
goes_itself type.Int = refl
goes_itself type.Char = refl
goes_itself type.IntPtr = refl
goes_itself type.CharPtr = refl
goes_itself (type.StructPtr n) = refl

-- What slots take

pub integer_slot : (vs : List SlotType) (x : Slot) (t : SlotType) → kind_of vs x ≡ Some t → is_pointer t ≡ false → IsInteger vs x
integer_slot vs x t e p = record { type = t; is = e; integer = p }

pub pointer_slot : (vs : List SlotType) (x : Slot) (t : SlotType) → kind_of vs x ≡ Some t → is_pointer t ≡ true → IsPointer vs x
pointer_slot vs x t e p = record { type = t; is = e; pointer = p }

pub takes_pointer : (vs : List SlotType) (x : Slot) (t : SlotType) → is_pointer t ≡ true → TakesKind vs x t → kind_of vs x ≡ Some t
takes_pointer vs x t p h = subst (λ c. Takes c vs x t) p h

pub takes_integer : (vs : List SlotType) (x : Slot) (t : SlotType) → is_pointer t ≡ false → TakesKind vs x t → IsInteger vs x
takes_integer vs x t p h = subst (λ c. Takes c vs x t) p h

-- by whether the value is a pointer
pub takes_by : (vs : List SlotType) (x : Slot) (s : SlotType) → (is_pointer s ≡ true → kind_of vs x ≡ Some s) → (is_pointer s ≡ false → IsInteger vs x) → TakesKind vs x s
takes_by vs x s f h = by (is_pointer s) refl
  where
    by : (c : Bool) → is_pointer s ≡ c → Takes c vs x s
    by true e = f e
    by false e = h e

-- a slot takes what goes to its type
pub takes_fitting : (vs : List SlotType) (x : Slot) (t s : SlotType) → kind_of vs x ≡ Some t → fits t s ≡ true → TakesKind vs x s
takes_fitting vs x t s e h = takes_by vs x s (λ p. e ∙ ap Some (fits_pointer t s h p)) (λ p. integer_slot vs x t e (fits_integer t s h p))

pub takes_own : (vs : List SlotType) (x : Slot) (s : SlotType) → kind_of vs x ≡ Some s → TakesKind vs x s
takes_own vs x s e = takes_by vs x s (λ p. e) (λ p. integer_slot vs x s e p)

-- What is written is none of what is read

-- a slot that holds the value of node m
abbrev pub IsRead : Body → ℕ → ℕ → Slot → Type 0
IsRead b base m (slot.Var y) = y < b.variables
IsRead b base m slot.Ret = ⊥
IsRead b base m (slot.Temp k t) = k ≡ m - base

pub goal_apart : (b : Body) (base n m : ℕ) (x y : Slot) → base ≤ n → n < m → IsGoal b base n x → IsRead b base m y
    → same_var x y ≡ false → same_slot (length b.slots) x y ≡ false
goal_apart b base n m (slot.Var x) (slot.Var y) le lt goal read differ = differ
goal_apart b base n m (slot.Var x) slot.Ret le lt goal read differ = absurd read
goal_apart b base n m (slot.Var x) (slot.Temp l u) le lt goal read differ = refl
goal_apart b base n m slot.Ret (slot.Var y) le lt goal read differ = ne_eqb (length b.slots - 1) y (λ e. omega arith)
goal_apart b base n m slot.Ret slot.Ret le lt goal read differ = absurd read
goal_apart b base n m slot.Ret (slot.Temp l u) le lt goal read differ = refl
goal_apart b base n m (slot.Temp k t) (slot.Var y) le lt goal read differ = refl
goal_apart b base n m (slot.Temp k t) slot.Ret le lt goal read differ = absurd read
goal_apart b base n m (slot.Temp k t) (slot.Temp l u) le lt goal read differ = ne_eqb k l (λ e. omega arith)

pub no_var_temp : (x : Slot) (k : ℕ) (t : SlotType) → same_var x (slot.Temp k t) ≡ false
no_var_temp (slot.Var x) k t = refl
no_var_temp slot.Ret k t = refl
no_var_temp (slot.Temp l u) k t = refl

-- one variable is no temporary
pub first_no_temp : (n : ℕ) (x y : Slot) (k : ℕ) (t : SlotType) → same_var x y ≡ true → same_slot n x (slot.Temp k t) ≡ false
first_no_temp n (slot.Var x) y k t e = refl
first_no_temp n slot.Ret y k t e = refl
first_no_temp n (slot.Temp l u) (slot.Var y) k t e = absurd (false≢true e)
first_no_temp n (slot.Temp l u) slot.Ret k t e = absurd (false≢true e)
first_no_temp n (slot.Temp l u) (slot.Temp m v) k t e = absurd (false≢true e)

pub second_no_temp : (n : ℕ) (x y : Slot) (k : ℕ) (t : SlotType) → same_var x y ≡ true → same_slot n (slot.Temp k t) y ≡ false
second_no_temp n x (slot.Var y) k t e = refl
second_no_temp n x slot.Ret k t e = refl
second_no_temp n x (slot.Temp m v) k t e = absurd (both (same_var x (slot.Temp m v)) e (no_var_temp x m v))
