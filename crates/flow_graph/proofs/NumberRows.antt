-- Numbered slots and rows of edges, step by step.
use Rattle.std.proofs.Common.{◌≡◌, ℕ, ◌+◌, ◌<◌, [], ◌∷◌, ◌++◌, List, length, map, get_or, set, replicate, drop, refl, add-one, drop-cons}
use Rattle.std.proofs.lemmas.List.Elements.{All-nil, All-set, All-push, All-replicate}
use Rattle.std.specs.List.{All}
use Rattle.flow_graph.specs.declared.action.Edge.{Edge}
use Rattle.flow_graph.specs.Fits.{ConstantFits, RowsFit}
use Rattle.flow_graph.specs.declared.raw.Slot.{Slot}
use Rattle.flow_graph.specs.Numbers.{Numbering, slot_number}

pub slot_numbers_at : (ns : Numbering) (xs : List Slot) (i : ℕ) (d : Slot) → i < length xs
    → map (slot_number ns) (drop i xs) ≡ slot_number ns (get_or xs i d) ∷ map (slot_number ns) (drop (i + 1) xs)
slot_numbers_at ns xs i d h = rw (add-one i, drop-cons xs i d h) refl

-- Rows of edges whose constants fit

abbrev pub EdgeFit : Edge → Type 0
EdgeFit e = ConstantFits e.action

pub empty_fit : (count : ℕ) → RowsFit (replicate count [])
empty_fit count = All-replicate (All EdgeFit) count [] (All-nil EdgeFit)

pub pushed_fit : (rows : List (List Edge)) (i : ℕ) (d : List Edge) (e : Edge) → i < length rows → RowsFit rows → ConstantFits e.action → RowsFit (set rows i (get_or rows i d ++ e ∷ []))
pushed_fit rows i d e within fit one =
    All-set (All EdgeFit) rows i (get_or rows i d ++ e ∷ []) (All-push EdgeFit (get_or rows i d) e (fit i d within) one) fit
