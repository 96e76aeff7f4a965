-- The room of the second text, row by row and instance by instance.
use Rattle.std.proofs.Common.{◌≡◌, ℕ, ◌+◌, ◌-◌, ◌<◌, ◌≤◌, Bool, true, false, List, [], ◌∷◌, ◌++◌, length, take, drop, get_or, refl, sym, ap, ◌∙◌, leb, Some, None, arith}
use Rattle.std.proofs.lemmas.Bool.{le-leb, lt-leb, leb-true}
use Rattle.std.proofs.lemmas.List.{take-append-drop}
use Rattle.conflict_proof.proofs.PrintLemmas.{taken}
use Rattle.own_cert.specs.declared.certificate.PlaceBits.{PlaceBits}
use Rattle.own_cert.specs.declared.certificate.Instance.{Instance}
use Rattle.own_cert.specs.declared.certificate.Certificate.{Certificate}
use Rattle.own_cert.specs.declared.lines.Version.TheVariants.{First, Second}
use Rattle.own_cert.specs.declared.runs.Room.{Room}
use Rattle.own_cert.specs.Text.{row_bits, places_of, bits_of, printed_version}
use Rattle.own_cert.specs.Runs.{room_less, room_after_rows}
use Rattle.own_cert.proofs.RunLemmas.{row_bits-append}
use Rattle.own_cert.proofs.DraftLemmas.{room_of}
use Rattle.own_cert.proofs.ReachLemmas.{places_push, bits_push, Takes, takes}

pub bits_taken : (rows : List PlaceBits) (i : ℕ) (row : PlaceBits) → i < length rows → row ≡ get_or rows i row → row_bits (take (i + 1) rows) ≡ row_bits (take i rows) + length row.bits
bits_taken rows i row low is = ap row_bits (taken rows i row low is) ∙ row_bits-append (take i rows) (row ∷ []) ∙ omega arith

pub bits_within : (rows : List PlaceBits) (i : ℕ) → row_bits (take i rows) ≤ row_bits rows
bits_within rows i = let e : row_bits rows ≡ row_bits (take i rows) + row_bits (drop i rows) = ap row_bits (sym (take-append-drop i rows)) ∙ row_bits-append (take i rows) (drop i rows) in omega (arith, e)

less_none_by : (room : Room) (p b : ℕ) (t : Bool) → leb p room.places ≡ t → room.bits < b → room_less room p b ≡ None
less_none_by room p b true e over = rw (e, lt-leb b room.bits over) refl
less_none_by room p b false e over = rw e refl

-- bits that don't fit
pub no_bits_left : (room : Room) (rows : List PlaceBits) (i bits : ℕ) (row : PlaceBits) → i < length rows → row ≡ get_or rows i row → bits + row_bits (take i rows) ≡ room.bits → (length row.bits ≤ bits → ⊥)
    → room_after_rows room rows ≡ None
no_bits_left room rows i bits row low is e over =
    less_none_by room (length rows) (row_bits rows) (leb (length rows) room.places) refl
    (let more = bits_taken rows i row low is in let within = bits_within rows (i + 1) in omega (arith, e, over, more, within))

pub no_places_left : (room : Room) (rows : List PlaceBits) → (length rows ≤ room.places → ⊥) → room_after_rows room rows ≡ None
no_places_left room rows over = let more : room.places < length rows = omega (arith, over) in rw (lt-leb (length rows) room.places more) refl

pub all_left : (room : Room) (rows : List PlaceBits) (places bits : ℕ) → length rows ≤ room.places → places ≡ room.places - length rows → bits + row_bits rows ≡ room.bits
    → Some (room_of places bits) ≡ room_after_rows room rows
all_left room rows places bits low p b =
    let here : row_bits rows ≤ room.bits = omega (arith, b) in
    let left : bits ≡ room.bits - row_bits rows = omega (arith, b) in
    rw (le-leb (length rows) room.places low, le-leb (row_bits rows) room.bits here) (ap (λ n. Some (room_of n bits)) p ∙ ap (λ n. Some (room_of (room.places - length rows) n)) left)

-- what the room after rows says
abbrev pub Less : Room → Room → List PlaceBits → Type 0
Less room left rows = Takes room left (length rows) (row_bits rows)

pub less : (room left : Room) (rows : List PlaceBits) → room_after_rows room rows ≡ Some left → Less room left rows
less room left rows e = takes room left (length rows) (row_bits rows) (leb (length rows) room.places) (leb (row_bits rows) room.bits) refl refl e

pub over : (room : Room) (rows : List PlaceBits) → room_after_rows room rows ≡ None → (length rows ≤ room.places) → (row_bits rows ≤ room.bits) → ⊥
over room rows e p b = let f : Some (room_of (room.places - length rows) (room.bits - row_bits rows)) ≡ None = rw (le-leb (length rows) room.places p, le-leb (row_bits rows) room.bits b) at e in cc

-- instances
places_taken : (is : List Instance) (k : ℕ) (i : Instance) → k < length is → i ≡ get_or is k i → places_of (take (k + 1) is) ≡ places_of (take k is) + length i.places
places_taken is k i low e = ap places_of (taken is k i low e) ∙ places_push (take k is) i

bits_of_taken : (is : List Instance) (k : ℕ) (i : Instance) → k < length is → i ≡ get_or is k i → bits_of (take (k + 1) is) ≡ bits_of (take k is) + row_bits i.places
bits_of_taken is k i low e = ap bits_of (taken is k i low e) ∙ bits_push (take k is) i

places-append : (a b : List Instance) → places_of (a ++ b) ≡ places_of a + places_of b
places-append [] b = omega arith
places-append (i ∷ a) b = omega (arith, places-append a b)

bits-append : (a b : List Instance) → bits_of (a ++ b) ≡ bits_of a + bits_of b
bits-append [] b = omega arith
bits-append (i ∷ a) b = omega (arith, bits-append a b)

-- how much of a certificate fits
pub record RoomFor (room : Room) (is : List Instance) : Type 0 where
  pub places : room.places + places_of is ≡ 16777216
  pub bits : room.bits + bits_of is ≡ 268435456

pub room_more : (is : List Instance) (k : ℕ) (i : Instance) (room left : Room) → k < length is → i ≡ get_or is k i → RoomFor room (take k is) → Less room left i.places → RoomFor left (take (k + 1) is)
room_more is k i room left low e h l = record {
  places = omega (arith, h.places, l.places_left, places_taken is k i low e);
  bits = omega (arith, h.bits, l.bits_left, bits_of_taken is k i low e);
}

not_fits_by : (c : Certificate) (s t : Bool) → leb (places_of c.instances) 16777216 ≡ s → leb (bits_of c.instances) 268435456 ≡ t → (places_of c.instances ≤ 16777216 → bits_of c.instances ≤ 268435456 → ⊥) → First ≡ printed_version c
not_fits_by c true true p b no_room = absurd (no_room (leb-true (places_of c.instances) 16777216 p) (leb-true (bits_of c.instances) 268435456 b))
not_fits_by c true false p b no_room = rw (p, b) refl
not_fits_by c false t p b no_room = rw p refl

pub not_fits : (c : Certificate) (is : List Instance) (k : ℕ) (i : Instance) (room : Room) → is ≡ c.instances → k < length is → i ≡ get_or is k i → RoomFor room (take k is) → room_after_rows room i.places ≡ None → First ≡ printed_version c
not_fits c is k i room all low e h none =
    not_fits_by c (leb (places_of c.instances) 16777216) (leb (bits_of c.instances) 268435456) refl refl
    (λ p b.
    let pt = places_taken is k i low e in
    let bt = bits_of_taken is k i low e in
    let pw : places_of is ≡ places_of (take (k + 1) is) + places_of (drop (k + 1) is) = ap places_of (sym (take-append-drop (k + 1) is)) ∙ places-append (take (k + 1) is) (drop (k + 1) is) in
    let bw : bits_of is ≡ bits_of (take (k + 1) is) + bits_of (drop (k + 1) is) = ap bits_of (sym (take-append-drop (k + 1) is)) ∙ bits-append (take (k + 1) is) (drop (k + 1) is) in
    let pa : places_of is ≡ places_of c.instances = ap places_of all in
    let ba : bits_of is ≡ bits_of c.instances = ap bits_of all in
    over room i.places none (omega (arith, h.places, p, pt, pw, pa)) (omega (arith, h.bits, b, bt, bw, ba)))

pub fits : (c : Certificate) (is : List Instance) (room : Room) → is ≡ c.instances → RoomFor room is → Second ≡ printed_version c
fits c is room all h =
    let pa : places_of is ≡ places_of c.instances = ap places_of all in
    let ba : bits_of is ≡ bits_of c.instances = ap bits_of all in
    let p : places_of c.instances ≤ 16777216 = omega (arith, h.places, pa) in
    let b : bits_of c.instances ≤ 268435456 = omega (arith, h.bits, ba) in
    rw (le-leb (places_of c.instances) 16777216 p, le-leb (bits_of c.instances) 268435456 b) refl
