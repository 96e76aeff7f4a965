-- Numbers of pointer fields, and the tables that are made of them.
use Rattle.std.proofs.Common.{◌≡◌, ◌+◌, ◌-◌, ◌<◌, ◌≤◌, ◌∷◌, ◌++◌, ◌∙◌, inl, inr, [], ℕ, zero, suc, Bool, true, false, cond, List, length, get_or, take, refl, sym, ap, subst, arith}
use Rattle.std.proofs.lemmas.Bool.{true≢false, cases_Bool, cases_lt}
use Rattle.std.proofs.lemmas.List.Elements.{All-get_or}
use Rattle.std.proofs.lemmas.List.{length-append, take_more, take_all, flat_map_more, get_or_past, get_or_read}
use Rattle.std.proofs.lemmas.List.Sums.{sum_by_more, sum_by-take-le}
use Rattle.std.proofs.lemmas.List.Concat.{get_or-flat_map}
use Rattle.std.proofs.lemmas.List.FromFn.{length-range_with_len, get_or-range_with_len}
use Rattle.std.proofs.lemmas.Option.{slice_get-get_or, slice_get_within, get_or_from_slice_get}
use Rattle.std.specs.Prelude.{map, sum_by, Option}
use Rattle.std.specs.List.{flat_map, range_with_len}
use Rattle.c_types.specs.declared.kinds.SlotType.{SlotType}
use Rattle.c_types.specs.declared.kinds.SlotType.TheVariants as type
use Rattle.c_types.specs.Types.{is_pointer}
use Rattle.flow_graph.specs.FlowGraph.{FlowGraph, members_of, member_type, type_in}
use Rattle.flow_graph.specs.Fits.{HasPointer, IsFlowGraph, pointer_count}
use Rattle.owner_vars.specs.declared.field_table.Member.{Member}
use Rattle.owner_vars.specs.Unknowns.{gather, field_count, first_field}
use Rattle.owner_vars.specs.Fields.{points_to, field_number, field_range, field_members, field_member, pointer_members, structs_of}
use Rattle.zo_core.specs.declared.number_range.NumberRange.{NumberRange}
use Rattle.owner_vars.specs.Tables.{StructRow, owners_in, targets_in, listed, no_struct, no_member, kinds_of, graph_with, member_row, member_rows, struct_row, struct_rows, pointers_before, AreFields}
use Rattle.owner_vars.proofs.Lists.{gather_agree, gather_front, map-append_lists, length-listed, get_or-listed}
use Rattle.owner_vars.proofs.Sizes.{members_small, fields_small, pointer_count-push}

-- pointers among types

add_off : (b : Bool) (n : ℕ) → b ≡ false → cond b 1 0 + n ≡ n
add_off true n e = absurd (true≢false e)
add_off false n e = omega arith

add_on : (b : Bool) (n : ℕ) → b ≡ true → cond b 1 0 + n ≡ suc n
add_on true n e = omega arith
add_on false n e = absurd (true≢false (sym e))

pub there : (ts : List SlotType) (x : ℕ) → is_pointer (type_in ts x) ≡ true → x < length ts
there [] x p = absurd (true≢false (sym p))
there (t ∷ ts) zero p = omega arith
there (t ∷ ts) (suc x) p = let lt = there ts x p in omega arith

-- a pointer among these types has a number below their count
pub count_below : (ts : List SlotType) (f : ℕ) → is_pointer (type_in ts f) ≡ true → pointer_count (take f ts) < pointer_count ts
count_below [] f p = absurd (true≢false (sym p))
count_below (t ∷ ts) zero p = let on = add_on (is_pointer t) (pointer_count ts) p in omega (arith, on)
count_below (t ∷ ts) (suc f) p = let lt = count_below ts f p in omega arith

-- and no other has it
pub count_same : (ts : List SlotType) (f n : ℕ) → is_pointer (type_in ts f) ≡ true → is_pointer (type_in ts n) ≡ true → pointer_count (take f ts) ≡ pointer_count (take n ts) → f ≡ n
count_same [] f n p r e = absurd (true≢false (sym p))
count_same (t ∷ ts) zero zero p r e = refl
count_same (t ∷ ts) zero (suc n) p r e = let on = add_on (is_pointer t) (pointer_count (take n ts)) p in absurd (omega (arith, on, e))
count_same (t ∷ ts) (suc f) zero p r e = let on = add_on (is_pointer t) (pointer_count (take f ts)) r in absurd (omega (arith, on, e))
count_same (t ∷ ts) (suc f) (suc n) p r e = ap suc (count_same ts f n p r (omega (arith, e)))

pub pointer_at : (ts : List SlotType) (x : ℕ) → HasPointer ts x → is_pointer (type_in ts x) ≡ true
pointer_at ts x h = ap is_pointer (get_or_from_slice_get ts x h.type type.Int h.is) ∙ h.pointer

pub pointer_has : (ts : List SlotType) (x : ℕ) → is_pointer (type_in ts x) ≡ true → HasPointer ts x
pointer_has ts x p = record {
  type = type_in ts x;
  is = slice_get-get_or ts x type.Int (there ts x p);
  pointer = p;
}

-- what stands for each pointer among types
module _ {X : Type 0} (v : SlotType → X) where
  abbrev one : SlotType → List X
  one t = cond (is_pointer t) (v t ∷ []) []

  abbrev pub row : List SlotType → List X
  row ts = flat_map one ts

  row_on : (t : SlotType) (ts : List SlotType) → is_pointer t ≡ true → row (t ∷ ts) ≡ v t ∷ row ts
  row_on t ts p = rw p refl

  row_off : (t : SlotType) (ts : List SlotType) → is_pointer t ≡ false → row (t ∷ ts) ≡ row ts
  row_off t ts p = rw p refl

  pub row_length : (ts : List SlotType) → length (row ts) ≡ pointer_count ts
  row_length [] = refl
  row_length (t ∷ ts) = elim (cases_Bool (is_pointer t)) [
    | inl p ↦ ap (λ (xs : List X). length xs) (row_on t ts p) ∙ ap suc (row_length ts) ∙ sym (add_on (is_pointer t) (pointer_count ts) p)
    | inr p ↦ ap (λ (xs : List X). length xs) (row_off t ts p) ∙ row_length ts ∙ sym (add_off (is_pointer t) (pointer_count ts) p)
  ]

  pub row_at : (ts : List SlotType) (f : ℕ) (d : X) → is_pointer (type_in ts f) ≡ true → get_or (row ts) (pointer_count (take f ts)) d ≡ v (type_in ts f)
  row_at [] f d p = absurd (true≢false (sym p))
  row_at (t ∷ ts) zero d p = ap (λ (xs : List X). get_or xs 0 d) (row_on t ts p)
  row_at (t ∷ ts) (suc f) d p = elim (cases_Bool (is_pointer t)) [
    | inl e ↦ ap (λ (n : ℕ). get_or (row (t ∷ ts)) n d) (add_on (is_pointer t) (pointer_count (take f ts)) e) ∙ ap (λ (xs : List X). get_or xs (suc (pointer_count (take f ts))) d) (row_on t ts e) ∙ row_at ts f d p
    | inr e ↦ ap (λ (n : ℕ). get_or (row (t ∷ ts)) n d) (add_off (is_pointer t) (pointer_count (take f ts)) e) ∙ ap (λ (xs : List X). get_or xs (pointer_count (take f ts)) d) (row_off t ts e) ∙ row_at ts f d p
  ]

  pub row_more : (before : List X) (ts : List SlotType) (i : ℕ) (t : SlotType) → i < length ts → t ≡ get_or ts i t → before ++ row (take (i + 1) ts) ≡ (before ++ row (take i ts)) ++ one t
  row_more before ts i t lt is = ap (λ (us : List SlotType). before ++ row us) (take_more ts i t lt ∙ ap (λ (u : SlotType). take i ts ++ u ∷ []) (sym is)) ∙ sym (flat_map_more one before (take i ts) t)

-- a `flat_map` over numbers is a gathering
pub range_gather : {X : Type 0} (F : ℕ → List X) (a n : ℕ) → flat_map F (range_with_len a n) ≡ gather n (λ i. F (a + i))
range_gather F a zero = refl
range_gather F a (suc n) =
    let at : a ≡ a + 0 = omega arith in
    ap (λ us. F a ++ us) (range_gather F (a + 1) n ∙ gather_agree n (λ i. F (a + 1 + i)) (λ i. F (a + suc i)) (λ i lt. ap F (next i)))
    ∙ ap (λ k. F k ++ gather n (λ i. F (a + suc i))) at
    ∙ sym (gather_front n (λ i. F (a + i)))
  where
    next : (i : ℕ) → a + 1 + i ≡ a + suc i
    next i = omega arith

-- the pointers of all structs
module _ {X : Type 0} (g : FlowGraph) (v : ℕ → SlotType → X) where
  abbrev pub struct_pointers : ℕ → List X
  struct_pointers s = row (v s) (members_of g s)

  pub gather_length : (m : ℕ) → m ≤ length g.structs → length (gather m struct_pointers) ≡ sum_by pointer_count (take m g.structs)
  gather_length zero le = refl
  gather_length (suc m) le =
      let before = gather_length m (omega arith) in
      let here = row_length (v m) (members_of g m) in
      let next : suc m ≡ m + 1 = omega arith in
      length-append (gather m struct_pointers) (struct_pointers m) ∙ (rw next (rw (sum_by_more pointer_count g.structs m [] (omega arith)) (omega (arith, before, here))))

  pub all_length : length (flat_map struct_pointers (range_with_len 0 (length g.structs))) ≡ field_count g
  all_length =
      ap (λ (xs : List X). length xs) (range_gather struct_pointers 0 (length g.structs) ∙ gather_agree (length g.structs) (λ i. struct_pointers (0 + i)) struct_pointers (λ i lt. ap struct_pointers (from_zero i)))
      ∙ gather_length (length g.structs) (omega arith)
      ∙ ap (sum_by pointer_count) (take_all (length g.structs) g.structs (omega arith))
    where
      from_zero : (i : ℕ) → 0 + i ≡ i
      from_zero i = omega arith

pub gathered : {X : Type 0} (F : ℕ → List X) (n : ℕ) → flat_map F (range_with_len 0 n) ≡ gather n F
gathered F n = range_gather F 0 n ∙ gather_agree n (λ i. F (0 + i)) F (λ i lt. ap F (from_zero i))
  where
    from_zero : (i : ℕ) → 0 + i ≡ i
    from_zero i = omega arith

take_numbers : (n i : ℕ) → i ≤ n → (a : ℕ) → take i (range_with_len a n) ≡ range_with_len a i
take_numbers n zero le a = refl
take_numbers zero (suc i) le a = absurd (omega arith)
take_numbers (suc n) (suc i) le a = ap (λ us. a ∷ us) (take_numbers n i (omega arith) (a + 1))

-- what the lists of the numbers below n, one after another, have at place k of the list z
pub place_of : {X : Type 0} (F : ℕ → List X) (n z k b : ℕ) (d : X) → z < n → k < length (F z) → length (gather z F) ≡ b → get_or (flat_map F (range_with_len 0 n)) (b + k) d ≡ get_or (F z) k d
place_of {X = X} F n z k b d lz short begin =
    let all : List ℕ = range_with_len 0 n in
    let long = length-range_with_len 0 n in
    let here : get_or all z 0 ≡ z = get_or-range_with_len 0 n z 0 lz ∙ omega arith in
    let before : length (flat_map F (take z all)) ≡ b = ap (λ us. length (flat_map F us)) (take_numbers n z (omega (arith, lz)) 0) ∙ ap (λ (xs : List X). length xs) (gathered F z) ∙ begin in
    ap (λ (i : ℕ). get_or (flat_map F all) i d) (omega (arith, before))
    ∙ get_or-flat_map F all z k 0 d (omega (arith, lz, long)) (rw here short)
    ∙ ap (λ i. get_or (F i) k d) here

-- the members that are pointers
abbrev place_if : List SlotType → ℕ → List ℕ
place_if ts m = cond (is_pointer (type_in ts m)) (m ∷ []) []

pub pointers_are : (ts : List SlotType) → pointer_members ts ≡ pointers_before (length ts) ts
pointers_are ts = gathered (place_if ts) (length ts)

pub pointers_before-length : (ts : List SlotType) (n : ℕ) → n ≤ length ts → length (pointers_before n ts) ≡ pointer_count (take n ts)
pointers_before-length ts zero le = refl
pointers_before-length ts (suc n) le =
    let more = ap pointer_count (take_more ts n type.Int (omega arith)) ∙ pointer_count-push (take n ts) (type_in ts n) in
    let next : suc n ≡ n + 1 = omega arith in
    length-append (pointers_before n ts) (place_if ts n)
    ∙ rw next (omega (arith, more, pointers_before-length ts n (omega arith), one_or_none (is_pointer (type_in ts n)) n))
  where
    one_or_none : (b : Bool) (m : ℕ) → length (cond b (m ∷ []) []) ≡ cond b 1 0
    one_or_none true m = refl
    one_or_none false m = refl

pub pointer_members-length : (ts : List SlotType) → length (pointer_members ts) ≡ pointer_count ts
pointer_members-length ts =
    ap (λ (xs : List ℕ). length xs) (pointers_are ts)
    ∙ pointers_before-length ts (length ts) (omega arith)
    ∙ ap pointer_count (take_all (length ts) ts (omega arith))

pub pointer_members-at : (ts : List SlotType) (m d : ℕ) → is_pointer (type_in ts m) ≡ true → get_or (pointer_members ts) (pointer_count (take m ts)) d ≡ m
pointer_members-at ts m d p =
    let lt = there ts m p in
    let one : place_if ts m ≡ m ∷ [] = ap (λ b. cond b (m ∷ []) []) p in
    let at : pointer_count (take m ts) ≡ pointer_count (take m ts) + 0 = omega arith in
    ap (λ (k : ℕ). get_or (pointer_members ts) k d) at
    ∙ place_of (place_if ts) (length ts) m 0 (pointer_count (take m ts)) d lt (rw one (omega arith)) (pointers_before-length ts m (omega (arith, lt)))
    ∙ ap (λ (xs : List ℕ). get_or xs 0 d) one

-- each number below the count is that of a pointer
abbrev PointerWith : List SlotType → ℕ → Type 0
PointerWith ts k = (m : ℕ) × (is_pointer (type_in ts m) ≡ true) × (pointer_count (take m ts) ≡ k)

pointer_first : (t : SlotType) (ts : List SlotType) → is_pointer t ≡ true → ((k : ℕ) → k < pointer_count ts → PointerWith ts k) → (k : ℕ) → k < pointer_count (t ∷ ts) → PointerWith (t ∷ ts) k
pointer_first t ts p rest zero lt = (zero, p, refl)
pointer_first t ts p rest (suc k) lt =
    let r = rest k (omega (arith, lt, add_on (is_pointer t) (pointer_count ts) p)) in
    (suc r.0, r.1, add_on (is_pointer t) (pointer_count (take r.0 ts)) p ∙ ap suc r.2)

pointer_later : (t : SlotType) (ts : List SlotType) → is_pointer t ≡ false → ((k : ℕ) → k < pointer_count ts → PointerWith ts k) → (k : ℕ) → k < pointer_count (t ∷ ts) → PointerWith (t ∷ ts) k
pointer_later t ts p rest k lt =
    let r = rest k (omega (arith, lt, add_off (is_pointer t) (pointer_count ts) p)) in
    (suc r.0, r.1, add_off (is_pointer t) (pointer_count (take r.0 ts)) p ∙ r.2)

pub pointer_with : (ts : List SlotType) (k : ℕ) → k < pointer_count ts → PointerWith ts k
pointer_with [] k lt = absurd (omega (arith, lt))
pointer_with (t ∷ ts) k lt = elim (cases_Bool (is_pointer t)) [
  | inl p ↦ pointer_first t ts p (pointer_with ts) k lt
  | inr p ↦ pointer_later t ts p (pointer_with ts) k lt
]

-- a struct that has a pointer member exists
pub struct_there : (ss : List (List SlotType)) (z f : ℕ) → is_pointer (type_in (get_or ss z []) f) ≡ true → z < length ss
struct_there [] z f p = absurd (true≢false (sym p))
struct_there (ts ∷ ss) zero f p = omega arith
struct_there (ts ∷ ss) (suc z) f p = let lt = struct_there ss z f p in omega arith

module _ (g : FlowGraph) where
  pub range_end : (s : ℕ) → s < length g.structs → first_field g s + pointer_count (members_of g s) ≤ field_count g + 1
  range_end s lt =
      let more = sum_by_more pointer_count g.structs s [] lt in
      let le = sum_by-take-le pointer_count g.structs (s + 1) in
      omega (arith, more, le)

  -- a pointer member's number is one of its struct's
  pub field_in : (z f : ℕ) → is_pointer (member_type g z f) ≡ true → (first_field g z ≤ field_number g z f) × (field_number g z f < first_field g z + pointer_count (members_of g z))
  field_in z f p = let lt = count_below (members_of g z) f p in (omega arith, omega (arith, lt))

  pub field_same : (z f n : ℕ) → is_pointer (member_type g z f) ≡ true → is_pointer (member_type g z n) ≡ true → field_number g z f ≡ field_number g z n → f ≡ n
  field_same z f n p r e = count_same (members_of g z) f n p r (omega (arith, e))

  pub field_is : (z f : ℕ) → is_pointer (member_type g z f) ≡ true → (0 < field_number g z f) × (field_number g z f ≤ field_count g)
  field_is z f p =
      let lt = count_below (members_of g z) f p in
      let end = range_end z (struct_there g.structs z f p) in
      (omega arith, omega (arith, lt, end))

  -- what a table over all pointer fields has at a number of the struct z
  entry : {X : Type 0} (F : ℕ → List X) → ((m : ℕ) → m ≤ length g.structs → length (gather m F) ≡ sum_by pointer_count (take m g.structs)) → (d : X) (z k : ℕ) → z < length g.structs → k < length (F z)
      → get_or (flat_map F (range_with_len 0 (length g.structs))) (first_field g z + k - 1) d ≡ get_or (F z) k d
  entry {X = X} F lengths d z k lz short =
      let at : first_field g z + k - 1 ≡ sum_by pointer_count (take z g.structs) + k = omega arith in
      ap (λ (i : ℕ). get_or (flat_map F (range_with_len 0 (length g.structs))) i d) at
      ∙ place_of F (length g.structs) z k (sum_by pointer_count (take z g.structs)) d lz short (lengths z (omega (arith, lz)))

  abbrev struct_members : ℕ → List ℕ
  struct_members s = pointer_members (members_of g s)

  struct_members_length : (m : ℕ) → m ≤ length g.structs → length (gather m struct_members) ≡ sum_by pointer_count (take m g.structs)
  struct_members_length zero le = refl
  struct_members_length (suc m) le =
      let before = struct_members_length m (omega arith) in
      let here = pointer_members-length (members_of g m) in
      let next : suc m ≡ m + 1 = omega arith in
      length-append (gather m struct_members) (struct_members m) ∙ (rw next (rw (sum_by_more pointer_count g.structs m [] (omega arith)) (omega (arith, before, here))))

  pub field_members-length : length (field_members g) ≡ field_count g
  field_members-length =
      ap (λ (xs : List ℕ). length xs) (gathered struct_members (length g.structs))
      ∙ struct_members_length (length g.structs) (omega arith)
      ∙ ap (sum_by pointer_count) (take_all (length g.structs) g.structs (omega arith))

  pub member_at : (z f : ℕ) → is_pointer (member_type g z f) ≡ true → field_member g (field_number g z f) ≡ f
  member_at z f p =
      let lt = count_below (members_of g z) f p in
      let long = pointer_members-length (members_of g z) in
      entry struct_members struct_members_length 0 z (pointer_count (take f (members_of g z))) (struct_there g.structs z f p) (omega (arith, lt, long))
      ∙ pointer_members-at (members_of g z) f 0 p

  -- each number up to the count is that of a struct's pointer member
  struct_with : (n k : ℕ) → n ≤ length g.structs → k < sum_by pointer_count (take n g.structs) → (z : ℕ) × (j : ℕ) × (z < n) × (j < pointer_count (members_of g z)) × (sum_by pointer_count (take z g.structs) + j ≡ k)
  struct_with zero k le lt = absurd (omega (arith, lt))
  struct_with (suc n) k le lt =
      let next : suc n ≡ n + 1 = omega arith in
      let more : sum_by pointer_count (take (suc n) g.structs) ≡ sum_by pointer_count (take n g.structs) + pointer_count (members_of g n) = ap (λ m. sum_by pointer_count (take m g.structs)) next ∙ sum_by_more pointer_count g.structs n [] (omega arith) in
      elim (cases_lt k (sum_by pointer_count (take n g.structs))) [
        | inl early ↦ let r = struct_with n k (omega arith) early in (r.0, r.1, omega (arith, r.2), r.3, r.4)
        | inr late ↦ (n, k - sum_by pointer_count (take n g.structs), omega arith, omega (arith, late, lt, more), omega (arith, late))
      ]

  pub field_with : (f : ℕ) → 0 < f → f ≤ field_count g → (z : ℕ) × (m : ℕ) × (is_pointer (member_type g z m) ≡ true) × (field_number g z m ≡ f)
  field_with f above within =
      let all : sum_by pointer_count (take (length g.structs) g.structs) ≡ field_count g = ap (sum_by pointer_count) (take_all (length g.structs) g.structs (omega arith)) in
      let r = struct_with (length g.structs) (f - 1) (omega arith) (omega (arith, above, within, all)) in
      let p = pointer_with (members_of g r.0) r.1 r.3 in
      (r.0, p.0, p.1, omega (arith, p.2, r.4, above))

  -- what a table over all pointer fields has at a pointer member's number
  pub field_at : {X : Type 0} (v : ℕ → SlotType → X) (d : X) (z f : ℕ) → is_pointer (member_type g z f) ≡ true
      → get_or (flat_map (struct_pointers g v) (range_with_len 0 (length g.structs))) (field_number g z f - 1) d ≡ v z (member_type g z f)
  field_at {X = X} v d z f p =
      let lt = count_below (members_of g z) f p in
      let short : pointer_count (take f (members_of g z)) < length (struct_pointers g v z) = let l = row_length (v z) (members_of g z) in omega (arith, lt, l) in
      entry (struct_pointers g v) (gather_length g v) d z (pointer_count (take f (members_of g z))) (struct_there g.structs z f p) short
      ∙ row_at (v z) (members_of g z) f d p

-- The tables

map_listed : {X Y : Type 0} (k : Y → X) (f : ℕ → Y) (xs : List X) (d : X) → ((i : ℕ) → i < length xs → k (f i) ≡ get_or xs i d) → (n : ℕ) → n ≤ length xs → map k (listed n f) ≡ take n xs
map_listed k f xs d h zero le = refl
map_listed k f xs d h (suc n) le =
    let next : n + 1 ≡ suc n = omega arith in
    map-append_lists k (listed n f) (f n ∷ [])
    ∙ ap (λ us. us ++ k (f n) ∷ []) (map_listed k f xs d h n (omega arith))
    ∙ ap (λ u. take n xs ++ u ∷ []) (h n (omega arith))
    ∙ sym (take_more xs n d (omega arith))
    ∙ ap (λ m. take m xs) next

kinds_back : (first : ℕ) (ts : List SlotType) → map (λ (m : Member). m.kind) (member_rows first ts) ≡ ts
kinds_back first ts = map_listed (λ (m : Member). m.kind) (member_row first ts) ts type.Int (λ i lt. refl) (length ts) (omega arith) ∙ take_all (length ts) ts (omega arith)

abbrev alone : List (List SlotType) → FlowGraph
alone ss = record { structs = ss; procs = []; bodies = 0; main_proc = 0; texts = [] }

pub structs_back : (g : FlowGraph) → graph_with (struct_rows g) ≡ structs_of g
structs_back g =
    ap alone
    (map_listed kinds_of (struct_row g) g.structs [] (λ i lt. kinds_back (first_field g i) (members_of g i)) (length g.structs) (omega arith)
    ∙ take_all (length g.structs) g.structs (omega arith))

module _ (g : FlowGraph) (is : IsFlowGraph g) (table : List StructRow) (owners members : List ℕ) (targets : List (Option ℕ)) (n : ℕ)
    (all : n ≡ length g.structs)
    (rows_made : table ≡ listed n (struct_row g))
    (owners_made : owners ≡ gather n (λ s. owners_in s (members_of g s)))
    (members_made : members ≡ gather n (λ s. pointer_members (members_of g s)))
    (targets_made : targets ≡ gather n (λ s. targets_in (members_of g s))) where
  rows_are : table ≡ struct_rows g
  rows_are = rows_made ∙ ap (λ m. listed m (struct_row g)) all

  pub made_view : graph_with table ≡ structs_of g
  made_view = ap graph_with rows_are ∙ structs_back g

  pub made_fields : AreFields (graph_with table) table owners members targets
  made_fields = subst (λ (h : FlowGraph). AreFields h table owners members targets) (sym made_view) (record {
    rows = rows_are;
    owned = owners_made ∙ ap (λ m. gather m (λ s. owners_in s (members_of g s))) all ∙ sym (gathered (λ s. owners_in s (members_of g s)) (length g.structs));
    standing = members_made ∙ ap (λ m. gather m (λ s. pointer_members (members_of g s))) all ∙ sym (gathered (λ s. pointer_members (members_of g s)) (length g.structs));
    led = targets_made ∙ ap (λ m. gather m (λ s. targets_in (members_of g s))) all ∙ sym (gathered (λ s. targets_in (members_of g s)) (length g.structs));
    few = members_small g is;
    small = fields_small g is;
  })

-- what the getters read
module _ (g : FlowGraph) (table : List StructRow) (owners members : List ℕ) (targets : List (Option ℕ)) (h : FlowGraph) (view : h ≡ g) (a : AreFields h table owners members targets) where
  pub known : AreFields g table owners members targets
  known = subst (λ (k : FlowGraph). AreFields k table owners members targets) view a

  pub owners_length : length owners ≡ field_count g
  owners_length = ap (λ (us : List ℕ). length us) known.owned ∙ all_length g (λ s _. s)

  pub members_length : length members ≡ field_count g
  members_length = ap (λ (us : List ℕ). length us) known.standing ∙ field_members-length g

  pub targets_length : length targets ≡ field_count g
  targets_length = ap (λ (us : List (Option ℕ)). length us) known.led ∙ all_length g (λ s t. points_to t)

  pub fields_few : field_count g ≤ 65536
  fields_few = known.small

  table_length : length table ≡ length g.structs
  table_length = ap (λ (us : List StructRow). length us) known.rows ∙ length-listed (length g.structs) (struct_row g)

  pub struct_within : (s : ℕ) → s < length g.structs → s < length table
  struct_within s lt = omega (arith, lt, table_length)

  pub struct_known : (s : ℕ) (r : StructRow) → s < length g.structs → r ≡ get_or table s r → r ≡ struct_row g s
  struct_known s r lt read =
      get_or_read table s r (struct_within s lt) read no_struct
      ∙ ap (λ (us : List StructRow). get_or us s no_struct) known.rows
      ∙ get_or-listed (length g.structs) s (struct_row g) no_struct lt

  pub range_known : (s : ℕ) (r : StructRow) → s < length g.structs → r ≡ get_or table s r → (r.range ≡ field_range g s) × (r.range.first + r.range.count ≤ field_count g + 1) × (r.range.count ≤ 64)
  range_known s r lt read =
      let e : r.range ≡ field_range g s = ap (λ (q : StructRow). q.range) (struct_known s r lt read) in
      (e, subst (λ (q : NumberRange). q.first + q.count ≤ field_count g + 1) (sym e) (range_end g s lt), subst (λ (q : NumberRange). q.count ≤ 64) (sym e) (known.few s))

  pub has_struct : (s m : ℕ) → HasPointer (members_of g s) m → s < length g.structs
  has_struct s m has = struct_there g.structs s m (pointer_at (members_of g s) m has)

  module _ (s m : ℕ) (has : HasPointer (members_of g s) m) (r : StructRow) (read : r ≡ get_or table s r) where
    row_is : r ≡ struct_row g s
    row_is = struct_known s r (has_struct s m has) read

    pub member_within : m < length r.members
    member_within =
        let n : length r.members ≡ length (members_of g s) = ap (λ (q : StructRow). length q.members) row_is ∙ length-listed (length (members_of g s)) (member_row (first_field g s) (members_of g s)) in
        let lt = slice_get_within (members_of g s) m has.type has.is in
        omega (arith, n, lt)

    pub number_known : (w : Member) → w ≡ get_or r.members m w → w.number ≡ field_number g s m
    number_known w at =
        ap (λ (x : Member). x.number)
        (get_or_read r.members m w member_within at no_member
        ∙ ap (λ (q : StructRow). get_or q.members m no_member) row_is
        ∙ get_or-listed (length (members_of g s)) m (member_row (first_field g s) (members_of g s)) no_member (slice_get_within (members_of g s) m has.type has.is))

-- the loops

pub members_short : (g : FlowGraph) → IsFlowGraph g → (s : ℕ) → length (members_of g s) ≤ 64
members_short g is s = elim (cases_lt s (length g.structs)) [
  | inl lt ↦ All-get_or (λ ts. length ts ≤ 64) g.structs s [] lt is.member_count
  | inr le ↦ subst (λ ts. length ts ≤ 64) (sym (get_or_past g.structs s [] le)) (omega arith)
]

pub gather_push : {X : Type 0} (n : ℕ) (F : ℕ → List X) (xs ys y : List X) → xs ≡ gather n F → y ≡ F n → ys ≡ xs ++ y → ys ≡ gather (n + 1) F
gather_push n F xs ys y before is e =
    let next : suc n ≡ n + 1 = omega arith in
    e ∙ ap (λ us. us ++ y) before ∙ ap (λ u. gather n F ++ u) is ∙ ap (λ k. gather k F) next

pub struct_made : (g : FlowGraph) (s first count : ℕ) (kinds : List SlotType) (members : List Member) → first ≡ first_field g s → kinds ≡ members_of g s → count ≡ pointer_count kinds → members ≡ member_rows first kinds
    → record { range = record { first = first; count = count }; members = members } ≡ struct_row g s
struct_made g s first count kinds members f k c m =
    let range : ℕ → ℕ → NumberRange = λ a b. record { first = a; count = b } in
    let made : NumberRange → List Member → StructRow = λ r ms. record { range = r; members = ms } in
    ap (λ a. made (range a count) members) f
    ∙ ap (λ b. made (range (first_field g s) b) members) (c ∙ ap pointer_count k)
    ∙ ap (λ ms. made (field_range g s) ms) (m ∙ ap (λ a. member_rows a kinds) f ∙ ap (λ ts. member_rows (first_field g s) ts) k)
