-- Keys and slots of lists of edges, read at an index.
use Rattle.std.proofs.Common.{◌≡◌, ℕ, ◌+◌, ◌<◌, ◌++◌, List, length, get_or, drop, refl, add-one, drop-cons}
use Rattle.flow_graph.specs.declared.raw.Slot.{Slot}
use Rattle.flow_graph.specs.declared.raw.RawEdge.{RawEdge}
use Rattle.flow_graph.specs.Numbers.{keys_of_place, place_keys, slots_in, named_slots, keys_of_slot, slot_keys}

pub place_keys_at : (es : List RawEdge) (i : ℕ) (d : RawEdge) → i < length es
    → place_keys (drop i es) ≡ (keys_of_place (get_or es i d).from ++ keys_of_place (get_or es i d).to) ++ place_keys (drop (i + 1) es)
place_keys_at es i d h = rw (add-one i, drop-cons es i d h) refl

pub named_slots_at : (es : List RawEdge) (i : ℕ) (d : RawEdge) → i < length es
    → named_slots (drop i es) ≡ slots_in (get_or es i d).action ++ named_slots (drop (i + 1) es)
named_slots_at es i d h = rw (add-one i, drop-cons es i d h) refl

pub slot_keys_at : (types : ℕ) (xs : List Slot) (i : ℕ) (d : Slot) → i < length xs
    → slot_keys types (drop i xs) ≡ keys_of_slot types (get_or xs i d) ++ slot_keys types (drop (i + 1) xs)
slot_keys_at types xs i d h = rw (add-one i, drop-cons xs i d h) refl
