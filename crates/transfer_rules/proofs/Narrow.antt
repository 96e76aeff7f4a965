-- What is seen of a procedure with one field alone is there in the procedure.
use Rattle.std.proofs.Common.{◌≡◌, ℕ, ◌+◌, ◌-◌, ◌<◌, ◌≤◌, Bool, true, false, cond, ◌&&◌, refl, subst, arith}
use Rattle.std.specs.Prelude.{nat_lt, nat_le}
use Rattle.std.proofs.lemmas.Bool.{leb-true, ltb-true, and_parts}
use Rattle.zo_core.specs.declared.number_range.NumberRange.{NumberRange}
use Rattle.field_rules.specs.Sight.{Sight, HasField, HasOmega, IsField, RangesExist}
use Rattle.transfer_rules.specs.Body.{Setting}
use Rattle.transfer_rules.specs.Exist.{IsSight}
use Rattle.transfer_rules.specs.Single.{only, one_field}

-- a number of the part of a range is of the range
inside : (r : NumberRange) (f g : ℕ) → f ≤ g → g < f + (only r f).count → (r.first ≤ g) × (g < r.first + r.count)
inside r f g from to = by (nat_le r.first f && nat_lt f (r.first + r.count)) refl to
  where
    by : (b : Bool) → (nat_le r.first f && nat_lt f (r.first + r.count)) ≡ b → g < f + cond b 1 0 → (r.first ≤ g) × (g < r.first + r.count)
    by true e lt =
        let h = and_parts (nat_le r.first f) (nat_lt f (r.first + r.count)) e in
        let le : r.first ≤ f = leb-true r.first f h.0 in
        let within : f < r.first + r.count = ltb-true f (r.first + r.count) h.1 in
        (omega arith, omega arith)
    by false e lt = absurd (omega arith)

pub field_there : (v : Sight) (f x g : ℕ) → HasField (one_field v f) x g → HasField v x g
field_there v f x g h =
    let i = inside (v.fields_of h.structure) f g h.from h.to in
    record { structure = h.structure; is = h.is; from = i.0; to = i.1 }

pub omega_there : (v : Sight) (f p x g : ℕ) → HasOmega (one_field v f) p x g → HasOmega v p x g
omega_there v f p x g h = record { place = h.place; slot = h.slot; field = field_there v f x g h.field }

pub ranges_there : (v : Sight) (f : ℕ) → RangesExist v → RangesExist (one_field v f)
ranges_there v f h s j lt =
    let r = v.fields_of s in
    let i = inside r f (f + j) (omega arith) (omega arith) in
    let a = i.0 in
    let b = i.1 in
    let is : r.first + (f + j - r.first) ≡ f + j = omega arith in
    subst (IsField v) is (h s (f + j - r.first) (omega arith))

pub sight_there : (v : Sight) (s : Setting) (f : ℕ) → IsSight v s → IsSight (one_field v f) s
sight_there v s f h = record {
  ranges = ranges_there v f h.ranges;
  pointers = record { pointer = h.pointers.pointer; structure = h.pointers.structure };
  params = h.params;
  entry = h.entry;
  exit = h.exit;
}
