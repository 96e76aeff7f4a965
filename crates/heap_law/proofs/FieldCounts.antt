-- Numbers of pointer fields.
use Rattle.std.proofs.Common.{◌≡◌, ◌+◌, ◌<◌, ◌≤◌, ◌∷◌, [], ℕ, zero, suc, Bool, true, false, cond, List, length, take, refl, sym, arith}
use Rattle.std.proofs.lemmas.Bool.{true≢false}
use Rattle.c_types.specs.declared.kinds.SlotType.{SlotType}
use Rattle.c_types.specs.Types.{is_pointer}
use Rattle.flow_graph.specs.FlowGraph.{FlowGraph, members_of, member_type, type_in}
use Rattle.flow_graph.specs.Fits.{HasPointer, pointer_count}
use Rattle.owner_vars.specs.Unknowns.{first_field}
use Rattle.owner_vars.specs.Fields.{field_number}

add_off : (b : Bool) (n : ℕ) → b ≡ false → cond b 1 0 + n ≡ n
add_off true n e = absurd (true≢false e)
add_off false n e = omega arith

add_on : (b : Bool) (n : ℕ) → b ≡ true → cond b 1 0 + n ≡ suc n
add_on true n e = omega arith
add_on false n e = absurd (true≢false (sym e))

pub there : (ts : List SlotType) (x : ℕ) → is_pointer (type_in ts x) ≡ true → x < length ts
there [] x p = absurd (true≢false (sym p))
there (t ∷ ts) zero p = omega arith
there (t ∷ ts) (suc x) p = let lt = there ts x p in omega arith

-- a pointer among these types has a number below their count
pub count_below : (ts : List SlotType) (f : ℕ) → is_pointer (type_in ts f) ≡ true → pointer_count (take f ts) < pointer_count ts
count_below [] f p = absurd (true≢false (sym p))
count_below (t ∷ ts) zero p = let on = add_on (is_pointer t) (pointer_count ts) p in omega (arith, on)
count_below (t ∷ ts) (suc f) p = let lt = count_below ts f p in omega arith

-- it is there as a pointer
pub has_pointer : (ts : List SlotType) (x : ℕ) → is_pointer (type_in ts x) ≡ true → HasPointer ts x
has_pointer [] x p = absurd (true≢false (sym p))
has_pointer (t ∷ ts) zero p = record { type = t; is = refl; pointer = p }
has_pointer (t ∷ ts) (suc x) p = let has = has_pointer ts x p in record { type = has.type; is = has.is; pointer = has.pointer }

-- one more parameter
pub count_next : (t : SlotType) (ts : List SlotType) (j : ℕ) → is_pointer t ≡ true → pointer_count (take (suc j) (t ∷ ts)) ≡ suc (pointer_count (take j ts))
count_next t ts j p = add_on (is_pointer t) (pointer_count (take j ts)) p

pub count_stays : (t : SlotType) (ts : List SlotType) (j : ℕ) → is_pointer t ≡ false → pointer_count (take (suc j) (t ∷ ts)) ≡ pointer_count (take j ts)
count_stays t ts j p = add_off (is_pointer t) (pointer_count (take j ts)) p

-- a pointer member's number is one of its struct's
pub field_in : (g : FlowGraph) (z f : ℕ) → is_pointer (member_type g z f) ≡ true → (first_field g z ≤ field_number g z f) × (field_number g z f < first_field g z + pointer_count (members_of g z))
field_in g z f p = let lt = count_below (members_of g z) f p in (omega arith, omega arith)
