-- The slots of a body and their numbers: variables and the result come first, then temporaries in the order of their keys.
use Rattle.std.proofs.Common.{◌≡◌, inl, inr, ℕ, zero, suc, ◌+◌, ◌-◌, ◌%◌, ◌<◌, true, false, List, [], ◌∷◌, ◌++◌, length, map, get_or, nat_eq, Option, Some, None, option_map, refl, sym, ap, subst, ◌∙◌, arith}
use Rattle.std.specs.Prelude.{⊤, slice_get}
use Rattle.std.specs.List.{All}
use Rattle.std.proofs.lemmas.Bool.{eq-eqb, ne_eqb, false≢true}
use Rattle.std.proofs.lemmas.Nat.{mod-mul-add, same_from_place}
use Rattle.std.proofs.lemmas.List.Concat.{flat_map-append}
use Rattle.std.proofs.lemmas.List.Elements.{All-head, All-tail}
use Rattle.std.proofs.lemmas.Option.{same_Some, slice_get-map, slice_get_within, slice_get-get_or}
use Rattle.c_types.specs.declared.kinds.SlotType.{SlotType}
use Rattle.c_types.specs.declared.kinds.SlotType.TheVariants as type
use Rattle.flow_graph.specs.declared.raw.Slot.{Slot}
use Rattle.flow_graph.specs.declared.raw.Slot.TheVariants as slot
use Rattle.flow_graph.specs.declared.raw.RawEdge.{RawEdge}
use Rattle.flow_graph.specs.FlowGraph.{FlowGraph}
use Rattle.flow_graph.specs.Fits.{is_in, TypeExists}
use Rattle.flow_graph.specs.Numbers.{Numbering, ascending, sorted, type_code, type_of_code, temp_key, keys_of_slot, slots_in, named_slots, slot_keys, temp_keys, slot_number}
use Rattle.flow_graph.specs.GraphOf.{temp_types}
use Rattle.flow_graph.proofs.RawFits.{kind_of, same_slot, TempExists, TempsExist}
use Rattle.flow_graph.proofs.NumbersKeys.{slice_get-append_left, slice_get-append_right, is_in-self, is_in-one, is_in-append_left, is_in-append_right, is_in-append_cases, is_in-flat_map, flat_map_has, sorted-at, sorted-key, keys_apart, count-sorted}

-- Codes of types

pub type_code-below : (g : FlowGraph) (t : SlotType) → TypeExists g t → type_code t < 4 + length g.structs
type_code-below g type.Int there = omega arith
type_code-below g type.Char there = omega arith
type_code-below g type.IntPtr there = omega arith
type_code-below g type.CharPtr there = omega arith
type_code-below g (type.StructPtr s) there = omega (arith, there)

pub type_of-code : (t : SlotType) → type_of_code (type_code t) ≡ t
type_of-code type.Int = refl
type_of-code type.Char = refl
type_of-code type.IntPtr = refl
type_of-code type.CharPtr = refl
type_of-code (type.StructPtr s) = structure (ne_eqb (4 + s) 0 (λ e. omega (arith, e))) (ne_eqb (4 + s) 1 (λ e. omega (arith, e))) (ne_eqb (4 + s) 2 (λ e. omega (arith, e))) (ne_eqb (4 + s) 3 (λ e. omega (arith, e)))
  where
    structure : nat_eq (4 + s) 0 ≡ false → nat_eq (4 + s) 1 ≡ false → nat_eq (4 + s) 2 ≡ false → nat_eq (4 + s) 3 ≡ false → type_of_code (4 + s) ≡ type.StructPtr s
    structure a b c d = rw (a, b, c, d) (ap (λ (n : ℕ). type.StructPtr n) (let e : (4 + s) - 4 ≡ s = omega arith in e))

-- the type in a key
pub type_in_key : (types k : ℕ) (t : SlotType) → type_code t < types → type_of_code (temp_key types k t % types) ≡ t
type_in_key types k t small = ap type_of_code (mod-mul-add k types (type_code t) small) ∙ type_of-code t

-- and the position of its node
pub position_in_key : (types k l : ℕ) (t u : SlotType) → type_code t < types → type_code u < types → temp_key types k t ≡ temp_key types l u → k ≡ l
position_in_key types k l t u small less same = (same_from_place k (type_code t) l (type_code u) types small less same).0

-- Slots that edges name

-- a temporary is among those with these keys, and its type exists
abbrev pub IsKnown : FlowGraph → ℕ → List ℕ → Slot → Type 0
IsKnown g types ks (slot.Temp k t) = (is_in ks (temp_key types k t) ≡ true) × TypeExists g t
IsKnown g types ks _ = ⊤

known : (g : FlowGraph) (types : ℕ) (ks : List ℕ) (x : Slot) → TempExists g x → ((k : ℕ) → is_in (keys_of_slot types x) k ≡ true → is_in ks k ≡ true) → IsKnown g types ks x
known g types ks (slot.Temp k t) there has = (has (temp_key types k t) (is_in-self (temp_key types k t)), there)
known g types ks (slot.Var x) there has = tt
known g types ks slot.Ret there has = tt

edge_slot_keys : (types : ℕ) (es : List RawEdge) (i : ℕ) (d : RawEdge) (k : ℕ) → i < length es → is_in (slot_keys types (slots_in (get_or es i d).action)) k ≡ true → is_in (temp_keys types es) k ≡ true
edge_slot_keys types [] i d k within h = absurd (omega arith)
edge_slot_keys types (e ∷ es) zero d k within h =
    let both = flat_map-append (keys_of_slot types) (slots_in e.action) (named_slots es) in
    subst (λ (xs : List ℕ). is_in xs k ≡ true) (sym both) (is_in-append_left (slot_keys types (slots_in e.action)) (slot_keys types (named_slots es)) k h)
edge_slot_keys types (e ∷ es) (suc i) d k within h =
    let both = flat_map-append (keys_of_slot types) (slots_in e.action) (named_slots es) in
    subst (λ (xs : List ℕ). is_in xs k ≡ true) (sym both)
    (is_in-append_right (slot_keys types (slots_in e.action)) (slot_keys types (named_slots es)) k (edge_slot_keys types es i d k (omega arith) h))

pub known_slots : (g : FlowGraph) (types : ℕ) (es : List RawEdge) → All (TempsExist g) es → All (λ e. All (IsKnown g types (temp_keys types es)) (slots_in e.action)) es
known_slots g types es all = λ i d within j x inside.
    known g types (temp_keys types es) (get_or (slots_in (get_or es i d).action) j x) (all i d within j x inside)
    (λ k h. edge_slot_keys types es i d k within (is_in-flat_map (keys_of_slot types) (slots_in (get_or es i d).action) j x k inside h))

-- The types of temporaries

type_known : (g : FlowGraph) (types k : ℕ) (x : Slot) → types ≡ 4 + length g.structs → TempExists g x → is_in (keys_of_slot types x) k ≡ true → TypeExists g (type_of_code (k % types))
type_known g types k (slot.Temp l u) count there h =
    let key = is_in-one (temp_key types l u) k h in
    let small : type_code u < types = omega (arith, count, type_code-below g u there) in
    subst (TypeExists g) (sym (ap (λ (n : ℕ). type_of_code (n % types)) key ∙ type_in_key types l u small)) there
type_known g types k (slot.Var x) count there h = absurd (false≢true h)
type_known g types k slot.Ret count there h = absurd (false≢true h)

slots_type_known : (g : FlowGraph) (types k : ℕ) (xs : List Slot) → types ≡ 4 + length g.structs → All (TempExists g) xs → is_in (slot_keys types xs) k ≡ true → TypeExists g (type_of_code (k % types))
slots_type_known g types k xs count all h =
    let at = flat_map_has (keys_of_slot types) xs k h in
    type_known g types k (get_or xs at.0 slot.Ret) count (all at.0 slot.Ret at.1) (at.2 slot.Ret)

edges_type_known : (g : FlowGraph) (types k : ℕ) (es : List RawEdge) → types ≡ 4 + length g.structs → All (TempsExist g) es → is_in (temp_keys types es) k ≡ true → TypeExists g (type_of_code (k % types))
edges_type_known g types k [] count all h = absurd (false≢true h)
edges_type_known g types k (e ∷ es) count all h =
    let there : is_in (slot_keys types (slots_in e.action) ++ temp_keys types es) k ≡ true =
    subst (λ (xs : List ℕ). is_in xs k ≡ true) (flat_map-append (keys_of_slot types) (slots_in e.action) (named_slots es)) h in
    elim (is_in-append_cases (slot_keys types (slots_in e.action)) (temp_keys types es) k there) [
      | inl first ↦ slots_type_known g types k (slots_in e.action) count (All-head (TempsExist g) e es all) first
      | inr later ↦ edges_type_known g types k es count (All-tail (TempsExist g) e es all) later
    ]

All-from_at : (P : SlotType → Type 0) (ts : List SlotType) → ((i : ℕ) (t : SlotType) → slice_get ts i ≡ Some t → P t) → All P ts
All-from_at P ts each = λ i d within. each i (get_or ts i d) (slice_get-get_or ts i d within)

pub temp_types_exist : (g : FlowGraph) (types : ℕ) (es : List RawEdge) → types ≡ 4 + length g.structs → All (TempsExist g) es → All (TypeExists g) (temp_types types es)
temp_types_exist g types es count all = All-from_at (TypeExists g) (temp_types types es) (λ i t h. by i t (slice_get (sorted (temp_keys types es)) i) refl h)
  where
    by : (i : ℕ) (t : SlotType) (o : Option ℕ) → slice_get (sorted (temp_keys types es)) i ≡ o → slice_get (temp_types types es) i ≡ Some t → TypeExists g t
    by i t None at h =
        let none : None ≡ Some t = sym (slice_get-map (λ k. type_of_code (k % types)) (sorted (temp_keys types es)) i ∙ ap (option_map (λ k. type_of_code (k % types))) at) ∙ h in
        absurd (cc)
    by i t (Some k) at h =
        let some : Some (type_of_code (k % types)) ≡ Some t = sym (slice_get-map (λ k. type_of_code (k % types)) (sorted (temp_keys types es)) i ∙ ap (option_map (λ k. type_of_code (k % types))) at) ∙ h in
        subst (TypeExists g) (same_Some (type_of_code (k % types)) t some) (edges_type_known g types k es count all (sorted-key (temp_keys types es) i k at).0)

-- Numbers of slots

-- the numbering of a body whose variables have these types, and whose temporaries have these keys
pub record AreNumbered (g : FlowGraph) (ns : Numbering) (vs : List SlotType) (ks : List ℕ) : Type 0 where
  pub vars : ns.vars ≡ length vs
  pub types : ns.types ≡ 4 + length g.structs
  pub temps : ns.temps ≡ sorted ks

module _ (g : FlowGraph) (ns : Numbering) (vs : List SlotType) (ks : List ℕ) (is : AreNumbered g ns vs ks) where
  abbrev pub slot_types : List SlotType
  slot_types = vs ++ map (λ k. type_of_code (k % ns.types)) (sorted ks)

  temp_number : (k : ℕ) (t : SlotType) → slot_number ns (slot.Temp k t) ≡ length vs + length (ascending ks (temp_key ns.types k t))
  temp_number k t =
      let count : length (ascending ns.temps (temp_key ns.types k t)) ≡ length (ascending ks (temp_key ns.types k t)) =
      ap (λ (ls : List ℕ). length (ascending ls (temp_key ns.types k t))) is.temps ∙ count-sorted ks (temp_key ns.types k t) in
      let vars = is.vars in
      omega (arith, count, vars)

  small_code : (t : SlotType) → TypeExists g t → type_code t < ns.types
  small_code t there = let types = is.types in omega (arith, types, type_code-below g t there)

  last_number : slot_number ns slot.Ret ≡ length vs - 1
  last_number = ap (λ (n : ℕ). n - 1) is.vars

  -- a slot has the type that its number says
  pub slot_kind : (x : Slot) (t : SlotType) → IsKnown g ns.types ks x → kind_of vs x ≡ Some t → slice_get slot_types (slot_number ns x) ≡ Some t
  slot_kind (slot.Var x) t there kind = slice_get-append_left vs (map (λ k. type_of_code (k % ns.types)) (sorted ks)) x t kind
  slot_kind slot.Ret t there kind =
      ap (slice_get slot_types) last_number ∙ slice_get-append_left vs (map (λ k. type_of_code (k % ns.types)) (sorted ks)) (length vs - 1) t kind
  slot_kind (slot.Temp k u) t there kind =
      let key = temp_key ns.types k u in
      slice_get-append_right vs (map (λ k. type_of_code (k % ns.types)) (sorted ks)) (length (ascending ks key)) (slot_number ns (slot.Temp k u)) (sym (temp_number k u))
      ∙ slice_get-map (λ k. type_of_code (k % ns.types)) (sorted ks) (length (ascending ks key))
      ∙ ap (option_map (λ k. type_of_code (k % ns.types))) (sorted-at ks key there.0)
      ∙ ap (λ (s : SlotType). Some s) (type_in_key ns.types k u (small_code u there.1))
      ∙ kind

  temps_apart : (k l : ℕ) (t u : SlotType) → IsKnown g ns.types ks (slot.Temp k t) → IsKnown g ns.types ks (slot.Temp l u)
      → nat_eq k l ≡ false → slot_number ns (slot.Temp k t) ≡ slot_number ns (slot.Temp l u) → ⊥
  temps_apart k l t u first second differ same =
      let counts : length (ascending ks (temp_key ns.types k t)) ≡ length (ascending ks (temp_key ns.types l u)) = omega (arith, same, temp_number k t, temp_number l u) in
      let key = keys_apart ks (temp_key ns.types k t) (temp_key ns.types l u) first.0 second.0 counts in
      let position = position_in_key ns.types k l t u (small_code t first.1) (small_code u second.1) key in
      false≢true (sym differ ∙ eq-eqb k l position)

  var_small : (x : ℕ) (t : SlotType) → kind_of vs (slot.Var x) ≡ Some t → x < length vs
  var_small x t kind = slice_get_within vs x t kind

  ret_small : (t : SlotType) → kind_of vs slot.Ret ≡ Some t → length vs - 1 < length vs
  ret_small t kind = slice_get_within vs (length vs - 1) t kind

  -- two slots that are not one have two numbers
  pub slots_apart : (x y : Slot) (t u : SlotType) → IsKnown g ns.types ks x → IsKnown g ns.types ks y → kind_of vs x ≡ Some t → kind_of vs y ≡ Some u
      → same_slot (length vs) x y ≡ false → slot_number ns x ≡ slot_number ns y → ⊥
  slots_apart (slot.Var x) (slot.Var y) t u first second kind other differ same = false≢true (sym differ ∙ eq-eqb x y same)
  slots_apart (slot.Var x) slot.Ret t u first second kind other differ same =
      false≢true (sym differ ∙ eq-eqb x (length vs - 1) (same ∙ last_number))
  slots_apart (slot.Var x) (slot.Temp l v) t u first second kind other differ same = omega (arith, same, temp_number l v, var_small x t kind)
  slots_apart slot.Ret (slot.Var y) t u first second kind other differ same =
      false≢true (sym differ ∙ eq-eqb (length vs - 1) y (sym last_number ∙ same))
  slots_apart slot.Ret slot.Ret t u first second kind other differ same = false≢true (sym differ)
  slots_apart slot.Ret (slot.Temp l v) t u first second kind other differ same = omega (arith, same, last_number, temp_number l v, ret_small t kind)
  slots_apart (slot.Temp k s) (slot.Var y) t u first second kind other differ same = omega (arith, same, temp_number k s, var_small y u other)
  slots_apart (slot.Temp k s) slot.Ret t u first second kind other differ same = omega (arith, same, last_number, temp_number k s, ret_small u other)
  slots_apart (slot.Temp k s) (slot.Temp l v) t u first second kind other differ same = temps_apart k l s v first second differ same
