-- The places of a group's lines, where a line is added.
use Rattle.std.proofs.Common.{◌≡◌, ◌≢◌, ℕ, zero, suc, ◌+◌, ◌<◌, ◌≤◌, ◌^◌, ◌⊎◌, inl, inr, List, [], ◌∷◌, ◌++◌, length, Some, slice_get, slice_index_or, get_or, take, refl, sym, ap, subst, ◌∙◌, arith}
use Rattle.std.proofs.lemmas.Bool.{cases_eq}
use Rattle.std.proofs.lemmas.List.{length_push, take_more, length-take-le}
use Rattle.std.proofs.lemmas.List.Sums.{sum_by-cons}
use Rattle.conflict_proof.specs.declared.derivation.Line.{Line}
use Rattle.verdict_meaning.specs.Derivations.{line_cost, cost_of}
use Rattle.call_search.specs.Indexes.{NoneBetween, NoneFrom, IsPlace, ArePlaces, AreIndexed, AreSame, IsPlaced}
use Rattle.call_search.proofs.Lists.{push_cases, push_same, get_append, get_within}

pub index_or_empty : (gs : List (List ℕ)) (g : ℕ) → slice_index_or (gs ++ [] ∷ []) g [] ≡ slice_index_or gs g []
index_or_empty [] zero = refl
index_or_empty [] (suc g) = refl
index_or_empty (x ∷ gs) zero = refl
index_or_empty (x ∷ gs) (suc g) = index_or_empty gs g

place_kept : (lines : List Line) (x : Line) (g p : ℕ) → IsPlace lines g p → IsPlace (lines ++ x ∷ []) g p
place_kept lines x g p is = record { line = is.line; there = get_append lines (x ∷ []) is.line p is.there; group = is.group }

between_kept : (lines : List Line) (x : Line) (g from to : ℕ) → to ≤ length lines → NoneBetween lines g from to → NoneBetween (lines ++ x ∷ []) g from to
between_kept lines x g from to le none n y low high at gr = elim (push_cases lines x y n at) [
  | inl was ↦ none n y low high was gr
  | inr e ↦ (let is = e.0 in absurd (omega arith))
]

from_kept : (lines : List Line) (x : Line) (g from : ℕ) → (x.group ≡ g → ⊥) → NoneFrom lines g from → NoneFrom (lines ++ x ∷ []) g from
from_kept lines x g from ne none n y low at gr = elim (push_cases lines x y n at) [
  | inl was ↦ none n y low was gr
  | inr e ↦ ne (ap (λ (z : Line). z.group) e.1 ∙ gr)
]

-- a line of another group
pub places_same : (lines : List Line) (x : Line) (g from : ℕ) (ps : List ℕ) → (x.group ≡ g → ⊥) → ArePlaces lines g from ps → ArePlaces (lines ++ x ∷ []) g from ps
places_same lines x g from [] ne none = from_kept lines x g from ne none
places_same lines x g from (p ∷ ps) ne are =
    let lt = get_within lines are.2.line p are.2.there in
    (are.0, between_kept lines x g from p (omega arith) are.1, place_kept lines x g p are.2, places_same lines x g (suc p) ps ne are.3)

none_behind : (lines : List Line) (x : Line) (g : ℕ) → NoneFrom (lines ++ x ∷ []) g (suc (length lines))
none_behind lines x g n y low at gr = elim (push_cases lines x y n at) [
  | inl was ↦ (let lt = get_within lines y n was in absurd (omega arith))
  | inr e ↦ (let is = e.0 in absurd (omega arith))
]

none_before : (lines : List Line) (x : Line) (g from : ℕ) → NoneFrom lines g from → NoneBetween (lines ++ x ∷ []) g from (length lines)
none_before lines x g from none n y low high at gr = elim (push_cases lines x y n at) [
  | inl was ↦ none n y low was gr
  | inr e ↦ (let is = e.0 in absurd (omega arith))
]

-- a line of the group
pub places_more : (lines : List Line) (x : Line) (g from : ℕ) (ps : List ℕ) → x.group ≡ g → from ≤ length lines → ArePlaces lines g from ps → ArePlaces (lines ++ x ∷ []) g from (ps ++ length lines ∷ [])
places_more lines x g from [] e le none =
    (le, none_before lines x g from none, record { line = x; there = push_same lines x; group = e }, none_behind lines x g)
places_more lines x g from (p ∷ ps) e le are =
    let lt = get_within lines are.2.line p are.2.there in
    (are.0, between_kept lines x g from p (omega arith) are.1, place_kept lines x g p are.2, places_more lines x g (suc p) ps e (omega arith) are.3)

pub indexed_none : (g : ℕ) → ArePlaces [] g 0 []
indexed_none g n x le at gr = cc

pub indexed_same : (lines : List Line) (gs hs : List (List ℕ)) → AreIndexed lines gs → AreSame gs hs → AreIndexed lines hs
indexed_same lines gs hs are same g = subst (λ (ps : List ℕ). ArePlaces lines g 0 ps) (sym (same g)) (are g)

pub indexed_more : (lines : List Line) (x : Line) (gs hs : List (List ℕ)) → AreIndexed lines gs → IsPlaced x.group (length lines) gs hs → AreIndexed (lines ++ x ∷ []) hs
indexed_more lines x gs hs are placed g = elim (cases_eq x.group g) [
  | inl e ↦ subst (λ (ps : List ℕ). ArePlaces (lines ++ x ∷ []) g 0 ps)
      (sym (subst (λ (h : ℕ). slice_index_or hs h [] ≡ slice_index_or gs h [] ++ length lines ∷ []) e placed.own))
      (places_more lines x g 0 (slice_index_or gs g []) e (omega arith) (are g))
  | inr ne ↦ subst (λ (ps : List ℕ). ArePlaces (lines ++ x ∷ []) g 0 ps) (sym (placed.others g (λ e. ne (sym e)))) (places_same lines x g 0 (slice_index_or gs g []) ne (are g))
]

-- so many lists without places were added
pub record Reached (old new : List (List ℕ)) (n : ℕ) : Type 0 where
  pub size : length new ≡ length old + n
  pub same : AreSame old new

pub reached_none : (gs : List (List ℕ)) → Reached gs gs 0
reached_none gs = record { size = omega arith; same = λ g. refl }

pub reached_next : (gs hs ks : List (List ℕ)) (n : ℕ) → Reached gs hs n → ks ≡ hs ++ [] ∷ [] → Reached gs ks (n + 1)
reached_next gs hs ks n r e = record {
  size = (let l = length_push hs [] in let k = ap (λ (xs : List (List ℕ)). length xs) e in let s = r.size in omega arith);
  same = λ g. ap (λ (xs : List (List ℕ)). slice_index_or xs g []) e ∙ index_or_empty hs g ∙ r.same g;
}

-- the first lines, and one more
pub indexed_next : (lines : List Line) (k : ℕ) (x : Line) (gs hs : List (List ℕ)) → k < length lines → x ≡ get_or lines k x → AreIndexed (take k lines) gs → IsPlaced x.group k gs hs
    → AreIndexed (take (k + 1) lines) hs
indexed_next lines k x gs hs lt is are placed =
    let size : length (take k lines) ≡ k = length-take-le k lines (omega arith) in
    subst (λ (ls : List Line). AreIndexed ls hs) (sym (take_more lines k x lt ∙ ap (λ y. take k lines ++ y ∷ []) (sym is)))
    (indexed_more (take k lines) x gs hs are (subst (λ (n : ℕ). IsPlaced x.group n gs hs) (sym size) placed))

pub indexed_pushed : (lines new : List Line) (x : Line) (gs hs : List (List ℕ)) (place : ℕ) → AreIndexed lines gs → new ≡ lines ++ x ∷ [] → place ≡ length lines → IsPlaced x.group place gs hs → AreIndexed new hs
indexed_pushed lines new x gs hs place are is at placed =
    subst (λ (ls : List Line). AreIndexed ls hs) (sym is) (indexed_more lines x gs hs are (subst (λ (n : ℕ). IsPlaced x.group n gs hs) at placed))

pub length_cost : (lines : List Line) → length lines ≤ cost_of lines
length_cost [] = omega arith
length_cost (x ∷ lines) = let rest = length_cost lines in let all = sum_by-cons line_cost x lines in omega arith

pub few_known : (lines : List Line) (words : ℕ) → cost_of lines + words < 2 ^ 32 → length lines < 2 ^ 32
few_known lines words small = let le = length_cost lines in omega arith
