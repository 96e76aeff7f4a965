-- The lines of a group, which stand at these places, are counted and become lemmas, one after another.
use Rattle.std.proofs.Common.{◌≡◌, ℕ, zero, suc, ◌+◌, ◌<◌, ◌≤◌, ◌⊎◌, inl, inr, List, [], ◌∷◌, length, take, drop, get_or, Some, slice_get, refl, sym, ap, subst, ◌∙◌, arith, add-one}
use Rattle.std.proofs.lemmas.Bool.{cases_eq}
use Rattle.std.proofs.lemmas.List.{take_all, drop_more, drop_all}
use Rattle.zo_core.specs.Literals.{Literal}
use Rattle.conflict_proof.specs.declared.derivation.Line.{Line}
use Rattle.verdict_meaning.specs.Derivations.{cost_of}
use Rattle.zo_solver.specs.Accounts.{Account}
use Rattle.call_search.specs.Indexes.{NoneBetween, NoneFrom, IsPlace, ArePlaces}
use Rattle.group_solver.specs.Lemmas.{words_of, HasLemmas}
use Rattle.group_solver.proofs.Lists.{get_below}
use Rattle.group_solver.proofs.Adding.{take_on, take_off, take_cost, lemma_skip, none_yet}

-- Lines of other groups

words_to : (lines : List Line) (g a b : ℕ) → a ≤ b → b ≤ length lines → NoneBetween lines g a b → words_of g (take b lines) ≡ words_of g (take a lines)
words_to lines g a zero le high none = let e : zero ≡ a = omega arith in ap (λ n. words_of g (take n lines)) e
words_to lines g a (suc c) le high none = elim (cases_eq a (suc c)) [
  | inl e ↦ ap (λ n. words_of g (take n lines)) (sym e)
  | inr ne ↦
      let here = get_below lines c (omega arith) in
      ap (λ n. words_of g (take n lines)) (sym (add-one c)) ∙ take_off g lines c here.0 here.1 (λ gr. none c here.0 (omega arith) (omega arith) here.1 gr)
      ∙ words_to lines g a c (omega arith) (omega arith) (λ n x low top. none n x low (omega arith))
]

lemmas_to : (lines : List Line) (g a b : ℕ) (ns : List ℕ) (first s : Account) → a ≤ b → b ≤ length lines → NoneBetween lines g a b → HasLemmas lines g a ns first s → HasLemmas lines g b ns first s
lemmas_to lines g a zero ns first s le high none has = let e : a ≡ zero = omega arith in subst (λ (n : ℕ). HasLemmas lines g n ns first s) e has
lemmas_to lines g a (suc c) ns first s le high none has = elim (cases_eq a (suc c)) [
  | inl e ↦ subst (λ (n : ℕ). HasLemmas lines g n ns first s) e has
  | inr ne ↦
      let here = get_below lines c (omega arith) in
      subst (λ (n : ℕ). HasLemmas lines g n ns first s) (add-one c)
      (lemma_skip lines g c ns first s here.0 here.1 (λ gr. none c here.0 (omega arith) (omega arith) here.1 gr)
      (lemmas_to lines g a c ns first s (omega arith) (omega arith) (λ n x low top. none n x low (omega arith)) has))
]

within_lines : (lines : List Line) (k : ℕ) (x : Line) → slice_get lines k ≡ Some x → k < length lines
within_lines [] k x at = cc
within_lines (y ∷ lines) zero x at = omega arith
within_lines (y ∷ lines) (suc k) x at = let rest = within_lines lines k x at in omega arith

-- Up to one of the places

-- the place that is next
pub next_place : (lines : List Line) (g from k p : ℕ) (ps : List ℕ) → k < length ps → p ≡ get_or ps k 0 → ArePlaces lines g from (drop k ps)
    → (from ≤ p) × NoneBetween lines g from p × IsPlace lines g p × ArePlaces lines g (suc p) (drop (k + 1) ps)
next_place lines g from k p ps lt is are = subst (λ (qs : List ℕ). ArePlaces lines g from qs) (drop_more ps k 0 lt ∙ ap (λ (q : ℕ). q ∷ drop (k + 1) ps) (sym is)) are

-- there is none further
no_place : (lines : List Line) (g from k : ℕ) (ps : List ℕ) → length ps ≤ k → ArePlaces lines g from (drop k ps) → NoneFrom lines g from
no_place lines g from k ps le are = subst (λ (qs : List ℕ). ArePlaces lines g from qs) (drop_all k ps le) are

-- Words

-- the lines at the first so many places cost these words
pub record AreCounted (lines : List Line) (g : ℕ) (ps : List ℕ) (k words : ℕ) : Type 0 where
  pub from : ℕ
  pub within : from ≤ length lines
  pub rest : ArePlaces lines g from (drop k ps)
  pub words_are : words ≡ words_of g (take from lines)

pub counted_none : (lines : List Line) (g : ℕ) (ps : List ℕ) → ArePlaces lines g 0 ps → AreCounted lines g ps 0 0
counted_none lines g ps are = record { from = 0; within = omega arith; rest = are; words_are = refl }

pub counted_there : (lines : List Line) (g k p words : ℕ) (ps : List ℕ) → k < length ps → p ≡ get_or ps k 0 → AreCounted lines g ps k words → p < length lines
counted_there lines g k p words ps lt is c =
    let next = next_place lines g c.from k p ps lt is c.rest in within_lines lines p next.2.line next.2.there

same_line : (lines : List Line) (p : ℕ) (x y : Line) → slice_get lines p ≡ Some x → slice_get lines p ≡ Some y → x ≡ y
same_line lines p x y ax ay = let e : Some x ≡ Some y = sym ax ∙ ay in cc

-- with the next line they are those of the lines up to it
pub counted_more : (lines : List Line) (g k p words : ℕ) (ps : List ℕ) (x : Line) → k < length ps → p ≡ get_or ps k 0 → slice_get lines p ≡ Some x → AreCounted lines g ps k words
    → words + (length x.lits + 1) ≡ words_of g (take (p + 1) lines)
counted_more lines g k p words ps x lt is at c =
    let next = next_place lines g c.from k p ps lt is c.rest in
    let inside = within_lines lines p x at in
    let gr : x.group ≡ g = ap (λ (y : Line). y.group) (same_line lines p x next.2.line at next.2.there) ∙ next.2.group in
    let same = words_to lines g c.from p next.0 (omega arith) next.1 in
    let more = take_on g lines p x at gr in
    let was = c.words_are in
    omega arith

pub counted_small : (lines : List Line) (g k p words : ℕ) (ps : List ℕ) (x : Line) → k < length ps → p ≡ get_or ps k 0 → slice_get lines p ≡ Some x → AreCounted lines g ps k words
    → words + (length x.lits + 1) ≤ cost_of lines
counted_small lines g k p words ps x lt is at c =
    let all = counted_more lines g k p words ps x lt is at c in let le = take_cost g lines (p + 1) in omega arith

pub counted_next : (lines : List Line) (g k p words new : ℕ) (ps : List ℕ) (x : Line) → k < length ps → p ≡ get_or ps k 0 → slice_get lines p ≡ Some x → AreCounted lines g ps k words
    → new ≡ words + (length x.lits + 1) → AreCounted lines g ps (k + 1) new
counted_next lines g k p words new ps x lt is at c e =
    let next = next_place lines g c.from k p ps lt is c.rest in
    let inside = within_lines lines p x at in
    record {
      from = suc p;
      within = omega arith;
      rest = next.3;
      words_are = e ∙ counted_more lines g k p words ps x lt is at c ∙ ap (λ n. words_of g (take n lines)) (add-one p);
    }

pub counted_all : (lines : List Line) (g k words : ℕ) (ps : List ℕ) → length ps ≤ k → AreCounted lines g ps k words → words ≡ words_of g lines
counted_all lines g k words ps le c =
    let none = no_place lines g c.from k ps le c.rest in
    c.words_are ∙ sym (words_to lines g c.from (length lines) c.within (omega arith) (λ n x low top. none n x low)) ∙ ap (words_of g) (take_all (length lines) lines (omega arith))

-- Lemmas

-- the lines at the first so many places are lemmas
pub record AreAdded (lines : List Line) (g : ℕ) (ps : List ℕ) (k : ℕ) (ns : List ℕ) (first s : Account) : Type 0 where
  pub from : ℕ
  pub within : from ≤ length lines
  pub rest : ArePlaces lines g from (drop k ps)
  pub has : HasLemmas lines g from ns first s

pub added_none : (lines : List Line) (g : ℕ) (ps : List ℕ) (s : Account) → s.lines ≡ [] → s.origins ≡ [] → ArePlaces lines g 0 ps → AreAdded lines g ps 0 [] s s
added_none lines g ps s none no_origins are = record { from = 0; within = omega arith; rest = are; has = none_yet lines g s none no_origins }

pub added_there : (lines : List Line) (g k p : ℕ) (ps ns : List ℕ) (first s : Account) → k < length ps → p ≡ get_or ps k 0 → AreAdded lines g ps k ns first s → p < length lines
added_there lines g k p ps ns first s lt is a =
    let next = next_place lines g a.from k p ps lt is a.rest in within_lines lines p next.2.line next.2.there

pub added_next : (lines : List Line) (g k p : ℕ) (ps ns ms : List ℕ) (first s t : Account) → k < length ps → p ≡ get_or ps k 0 → AreAdded lines g ps k ns first s
    → (HasLemmas lines g p ns first s → HasLemmas lines g (p + 1) ms first t) → AreAdded lines g ps (k + 1) ms first t
added_next lines g k p ps ns ms first s t lt is a step =
    let next = next_place lines g a.from k p ps lt is a.rest in
    let inside = within_lines lines p next.2.line next.2.there in
    record {
      from = suc p;
      within = omega arith;
      rest = next.3;
      has = subst (λ (n : ℕ). HasLemmas lines g n ms first t) (add-one p) (step (lemmas_to lines g a.from p ns first s next.0 (omega arith) next.1 a.has));
    }

pub added_all : (lines : List Line) (g k : ℕ) (ps ns : List ℕ) (first s : Account) → length ps ≤ k → AreAdded lines g ps k ns first s → HasLemmas lines g (length lines) ns first s
added_all lines g k ps ns first s le a =
    let none = no_place lines g a.from k ps le a.rest in
    lemmas_to lines g a.from (length lines) ns first s a.within (omega arith) (λ n x low top. none n x low) a.has
