-- What an expression refers to, and that it has a type, where no rule is broken.
use Rattle.std.proofs.Common.{◌≡◌, ℕ, zero, suc, ◌+◌, Bool, true, false, ◌&&◌, List, [], ◌∷◌, map, Option, Some, None, is_some, is_none, option_map, option_and_then, slice_get, bytes_eq, if◌then◌else◌, ℤ, pos, negsuc, ◌⊎◌, inl, inr, ⊎_elim, refl, sym, ap, ◌∙◌, arith}
use Rattle.std.specs.Option.{option_map_or}
use Rattle.std.proofs.lemmas.Option.{same_Some}
use Rattle.c_tree.specs.declared.tree.TypeName.{TypeName}
use Rattle.c_tree.specs.declared.tree.Unit.{Unit as Measured}
use Rattle.c_tree.specs.declared.tree.Unit.TheVariants as measured
use Rattle.c_tree.specs.Plain.{Expr, num, text, null, name, call, new, new_of, arrow, index, not_of, neg, binary}
use Rattle.c_types.specs.declared.kinds.SlotType.{SlotType}
use Rattle.c_types.specs.declared.kinds.SlotType.TheVariants as kind
use Rattle.c_types.specs.declared.kinds.Operand.{Operand}
use Rattle.c_types.specs.declared.kinds.Operand.TheVariants as operand
use Rattle.c_types.specs.declared.kinds.Wanted.{Wanted}
use Rattle.c_types.specs.declared.kinds.Wanted.TheVariants as wanted
use Rattle.c_types.specs.declared.infos.MemberInfo.{MemberInfo}
use Rattle.c_types.specs.declared.infos.SlotInfo.{SlotInfo}
use Rattle.c_types.specs.declared.infos.StructInfo.{StructInfo}
use Rattle.c_types.specs.declared.tables.Signature.{Signature}
use Rattle.c_types.specs.declared.tables.Tables.{Tables}
use Rattle.c_types.specs.declared.scope.Scope.{Scope}
use Rattle.c_types.specs.Breaches.{listed}
use Rattle.c_types.specs.Types.{is_pointer, pointer_only, of_number, of_type, no_array, element_type, breaks_9}
use Rattle.c_types.specs.Declarations.{signature_of}
use Rattle.c_types.specs.Scopes.{or_else, is_named, last_named, slot_in, kind_in}
use Rattle.c_types.specs.Exprs.{member_from, member_of, is_untyped, unit_type, result_of, operand_of, breaks_6, breaks_6_call, breaks_7, breaks_8, breaks_14, wants_value, breaks_18, breaches}
use Rattle.c_types.proofs.NodesLists.{no_breach, both_none, none_here, neither}

pub some_of : {A : Type 0} (o : Option A) → is_none o ≡ false → (x : A) × (o ≡ Some x)
some_of None e = cc
some_of (Some x) e = (x, refl)

-- Names

either : (o p : Option ℕ) (n : ℕ) → or_else o p ≡ Some n → (o ≡ Some n) ⊎ (p ≡ Some n)
either None p n e = inr e
either (Some i) p n e = inl e

some_if : (b : Bool) (i n : ℕ) → (if b then Some i else None) ≡ Some n → i ≡ n
some_if true i n e = cc
some_if false i n e = cc

named_here : (slots : List SlotInfo) (i n : ℕ) (x : List ℕ) (o : Option SlotInfo) → slice_get slots i ≡ o
    → (if option_map_or (λ v. bytes_eq v.name x) o false then Some i else None) ≡ Some n → (v : SlotInfo) × (slice_get slots n ≡ Some v)
named_here slots i n x None e h = cc
named_here slots i n x (Some v) e h = (v, rw (← some_if (bytes_eq v.name x) i n h) e)

last_has_slot : (slots : List SlotInfo) (is : List ℕ) (x : List ℕ) (n : ℕ) → last_named slots is x ≡ Some n → (v : SlotInfo) × (slice_get slots n ≡ Some v)
last_has_slot slots [] x n e = cc
last_has_slot slots (i ∷ is) x n e =
    ⊎_elim (λ h. last_has_slot slots is x n h) (named_here slots i n x (slice_get slots i) refl)
    (either (last_named slots is x) (if is_named slots i x then Some i else None) n e)

-- a name means this slot
pub record Means (s : Scope) (x : List ℕ) : Type 0 where
  pub number : ℕ
  pub slot : SlotInfo
  pub is : slot_in s x ≡ Some number
  pub has : slice_get s.slots number ≡ Some slot

pub name_means : (s : Scope) (x : List ℕ) → breaks_6 s x ≡ false → Means s x
name_means s x r =
    let f = some_of (slot_in s x) r in
    let v = last_has_slot s.slots s.visible x f.0 f.1 in
    record { number = f.0; slot = v.0; is = f.1; has = v.1 }

pub name_kind : (s : Scope) (x : List ℕ) (m : Means s x) → kind_in s x ≡ Some m.slot.kind
name_kind s x m = rw (m.is) (ap (option_map (λ v. v.kind)) m.has)

-- Members

-- the first of these members has the name or not
member_step : (named : Bool) (i : ℕ) (d : MemberInfo) (ms : List MemberInfo) (rest : Option (ℕ × SlotType)) (m : ℕ × SlotType)
    → (if named then Some (i, d.kind) else rest) ≡ Some m
    → (rest ≡ Some m → (k : ℕ) × (m.0 ≡ i + 1 + k) × (slice_get (map (λ x. x.kind) ms) k ≡ Some m.1))
    → (k : ℕ) × (m.0 ≡ i + k) × (slice_get (map (λ x. x.kind) (d ∷ ms)) k ≡ Some m.1)
member_step true i d ms rest m e below =
    let p : ◌≡◌ {A = ℕ × SlotType} (i, d.kind) m = same_Some (i, d.kind) m e in
    (0, sym (ap (λ q. q.0) p) ∙ zero_more i, ap (λ q. Some q.1) p)
  where
    zero_more : (n : ℕ) → n ≡ n + 0
    zero_more n = omega arith
member_step false i d ms rest m e below = let f = below e in (suc f.0, f.1 ∙ shifted i f.0, f.2)
  where
    shifted : (i k : ℕ) → i + 1 + k ≡ i + suc k
    shifted i k = omega arith

member_at : (i : ℕ) (ms : List MemberInfo) (f : List ℕ) (m : ℕ × SlotType) → member_from i ms f ≡ Some m
    → (k : ℕ) × (m.0 ≡ i + k) × (slice_get (map (λ d. d.kind) ms) k ≡ Some m.1)
member_at i [] f m e = cc
member_at i (d ∷ ms) f m e = member_step (bytes_eq d.name f) i d ms (member_from (i + 1) ms f) m e (member_at (i + 1) ms f m)

-- an arrow leads to this member
pub record LeadsTo (c : Tables) (o : Operand) (f : List ℕ) : Type 0 where
  pub structure : ℕ
  pub info : StructInfo
  pub member : ℕ
  pub type : SlotType
  pub base : o ≡ operand.Typed (kind.StructPtr structure)
  pub exists : slice_get c.structs structure ≡ Some info
  pub has : slice_get (map (λ m. m.kind) info.members) member ≡ Some type
  pub is : member_of c o f ≡ Some (member, type)

member_in : (c : Tables) (n : ℕ) (f : List ℕ) (o : Option StructInfo) → slice_get c.structs n ≡ o
    → is_none (option_and_then (λ s. member_from 0 s.members f) o) ≡ false → LeadsTo c (operand.Typed (kind.StructPtr n)) f
member_in c n f None e r = cc
member_in c n f (Some s) e r =
    let m = some_of (member_from 0 s.members f) r in
    let k = member_at 0 s.members f m.0 m.1 in
    let place : m.0.0 ≡ k.0 = omega (arith, k.1) in
    record {
      structure = n;
      info = s;
      member = m.0.0;
      type = m.0.1;
      base = refl;
      exists = e;
      has = ap (slice_get (map (λ x. x.kind) s.members)) place ∙ k.2;
      is = ap (option_and_then (λ x. member_from 0 x.members f)) e ∙ m.1;
    }

pub member_known : (c : Tables) (o : Operand) (f : List ℕ) → is_untyped o ≡ false → breaks_8 c o f ≡ false → LeadsTo c o f
member_known c (operand.Typed kind.Int) f t r = cc
member_known c (operand.Typed kind.Char) f t r = cc
member_known c (operand.Typed kind.IntPtr) f t r = cc
member_known c (operand.Typed kind.CharPtr) f t r = cc
member_known c (operand.Typed (kind.StructPtr n)) f t r = member_in c n f (slice_get c.structs n) refl r
member_known c operand.Zero f t r = cc
member_known c operand.Null f t r = cc
member_known c operand.Untyped f t r = cc

-- Calls, allocations and elements

call_value : (o : Option Signature) (w : Bool) → w ≡ true → is_none o ≡ false → (w && (is_some o && is_none (option_and_then (λ g. g.result) o))) ≡ false
    → (k : SlotType) × (option_and_then (λ g. g.result) o ≡ Some k)
call_value None w e h r = cc
call_value (Some g) true e h r = some_of g.result r
call_value (Some g) false e h r = cc

pub made_type : (c : Tables) (k : Option SlotType) (cast : Option TypeName) (unit : Option Measured) → breaks_14 c k cast unit ≡ false → (t : SlotType) × (k ≡ Some t)
made_type c None cast unit r = cc
made_type c (Some k) cast unit r = (k, refl)

only_pointer : (k t : SlotType) → pointer_only k ≡ Some t → is_pointer t ≡ true
only_pointer kind.Int t e = cc
only_pointer kind.Char t e = cc
only_pointer kind.IntPtr t e = cc
only_pointer kind.CharPtr t e = cc
only_pointer (kind.StructPtr n) t e = cc

behind_pointer : (o : Option SlotType) (t : SlotType) → option_and_then pointer_only o ≡ Some t → is_pointer t ≡ true
behind_pointer None t e = cc
behind_pointer (Some k) t e = only_pointer k t e

pub unit_pointer : (c : Tables) (s : Scope) (u : Option Measured) (t : SlotType) → unit_type c s u ≡ Some t → is_pointer t ≡ true
unit_pointer c s None t e = cc
unit_pointer c s (Some measured.Int) t e = cc
unit_pointer c s (Some measured.Char) t e = cc
unit_pointer c s (Some (measured.Struct g)) t e = cc
unit_pointer c s (Some (measured.Behind x)) t e = behind_pointer (kind_in s x) t e

pub element_known : (o : Operand) → is_untyped o ≡ false → no_array o ≡ false → (k : SlotType) × (element_type o ≡ Some k) × (is_pointer k ≡ false)
element_known (operand.Typed kind.Int) t r = cc
element_known (operand.Typed kind.Char) t r = cc
element_known (operand.Typed kind.IntPtr) t r = (kind.Int, refl, refl)
element_known (operand.Typed kind.CharPtr) t r = (kind.Char, refl, refl)
element_known (operand.Typed (kind.StructPtr n)) t r = cc
element_known operand.Zero t r = cc
element_known operand.Null t r = cc
element_known operand.Untyped t r = cc

-- Types

number_typed : (z : ℤ) → is_untyped (of_number z) ≡ false
number_typed (pos zero) = refl
number_typed (pos (suc n)) = refl
number_typed (negsuc n) = refl

typed_by : (o : Option SlotType) (k : SlotType) → o ≡ Some k → is_untyped (of_type o) ≡ false
typed_by o k e = rw e refl

-- an expression of which a value is wanted has a type
pub has_type : (c : Tables) (s : Scope) (w : Wanted) (e : Expr) → wants_value w ≡ true → breaches listed c s w e ≡ [] → is_untyped (operand_of c s e) ≡ false
has_type c s w (num at z) v r = number_typed z
has_type c s w (text at u) v r = refl
has_type c s w (null at) v r = refl
has_type c s w (name at x) v r = let m = name_means s x (no_breach (breaks_6 s x) at 6 r) in typed_by (kind_in s x) m.slot.kind (name_kind s x m)
has_type c s w (call at f es) v r =
    let known = none_here (breaks_6_call c f) at 6 _ r in
    let suits = none_here (breaks_7 c s f es) at 7 _ known.1 in
    let value = none_here (breaks_18 c w f) at 18 _ suits.1 in
    let t = call_value (signature_of c f) (wants_value w) v known.0 value.0 in
    typed_by (result_of c f) t.0 t.1
has_type c s w (new at n) v r = let t = made_type c (unit_type c s n.unit) n.cast n.unit (no_breach _ at 14 r) in typed_by (unit_type c s n.unit) t.0 t.1
has_type c s w (new_of at n e) v r =
    let t = made_type c (unit_type c s n.unit) n.cast n.unit (neither _ _ (none_here _ at 14 _ r).0).0 in
    typed_by (unit_type c s n.unit) t.0 t.1
has_type c s w (arrow at e f) v r =
    let here = none_here (breaks_8 c (operand_of c s e) f) at 8 _ r in
    let m = member_known c (operand_of c s e) f (has_type c s wanted.Value e refl here.1) here.0 in
    typed_by (option_map (λ m. m.1) (member_of c (operand_of c s e) f)) m.type (ap (option_map (λ m. m.1)) m.is)
has_type c s w (index at e i) v r =
    let here = none_here (breaks_9 (operand_of c s e) (operand_of c s i)) at 9 _ r in
    let base = neither (no_array (operand_of c s e)) _ here.0 in
    let below = both_none (breaches listed c s wanted.Value e) _ here.1 in
    let k = element_known (operand_of c s e) (has_type c s wanted.Value e refl below.0) base.0 in
    typed_by (element_type (operand_of c s e)) k.0 k.1
has_type c s w (not_of at e) v r = refl
has_type c s w (neg at e) v r = refl
has_type c s w (binary at o d e) v r = refl
