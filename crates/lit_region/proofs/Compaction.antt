-- What compacting has done when some of the references are through.
use Rattle.std.proofs.Common.{◌≡◌, ℕ, zero, suc, ◌+◌, ◌-◌, ◌<◌, ◌≤◌, List, [], ◌∷◌, ◌++◌, length, get_or, set, take, drop, refl, sym, ap, ◌∙◌, arith, append_assoc, append-nil}
use Rattle.std.proofs.lemmas.List.{length-take-le, length-drop, length-set, length-append, drop-drop, take_all, drop-set-lt}
use Rattle.std.proofs.Math.Seq.{take-suc-set, take-append_seam}
use Rattle.std.specs.List.{copy_within}
use Rattle.zo_core.specs.Literals.{Literal}
use Rattle.lit_region.specs.declared.region.Place.{Place}
use Rattle.lit_region.specs.Contents.{clauses_at, AreInOrder, chosen, renumbered}
use Rattle.lit_region.specs.Places.{literals_in, clauses_in, AreLaidOut}
use Rattle.lit_region.proofs.Layouts.{laid-push, laid-at, IsPlaceAt, clauses_in-append, clauses_in-cut, get-clauses_in, laid_words}

module _ {X : Type 0} where
  abbrev tail : List X → List X
  tail [] = []
  tail (x ∷ xs) = xs

  drop-suc : (xs : List X) (k : ℕ) → drop (suc k) xs ≡ tail (drop k xs)
  drop-suc [] zero = refl
  drop-suc [] (suc k) = refl
  drop-suc (x ∷ xs) zero = refl
  drop-suc (x ∷ xs) (suc k) = drop-suc xs k

  -- lists that agree from i on agree from a later place on
  drop-later : (xs ys : List X) (i j : ℕ) → i ≤ j → drop i xs ≡ drop i ys → drop j xs ≡ drop j ys
  drop-later xs ys i j le e =
      let at : i + (j - i) ≡ j = omega arith in
      rw at at (sym (drop-drop (j - i) i xs) ∙ ap (drop (j - i)) e ∙ drop-drop (j - i) i ys)

  get-drop : (xs : List X) (i j : ℕ) (d : X) → i ≤ j → get_or xs j d ≡ get_or (drop i xs) (j - i) d
  get-drop xs zero j d le = let same : j - 0 ≡ j = omega arith in rw same refl
  get-drop [] (suc i) zero d le = absurd (omega arith)
  get-drop [] (suc i) (suc j) d le = refl
  get-drop (x ∷ xs) (suc i) zero d le = absurd (omega arith)
  get-drop (x ∷ xs) (suc i) (suc j) d le = let e : suc j - suc i ≡ j - i = omega arith in rw e (get-drop xs i j d (omega arith))

  drop-cons-at : (xs : List X) (k : ℕ) (x : X) → k < length xs → x ≡ get_or xs k x → drop k xs ≡ x ∷ drop (suc k) xs
  drop-cons-at [] k x h e = absurd (omega arith)
  drop-cons-at (y ∷ xs) zero x h e = ap (λ (z : X). z ∷ xs) (sym e)
  drop-cons-at (y ∷ xs) (suc k) x h e = drop-cons-at xs k x (omega arith) e

  take-cons-at : (xs : List X) (k : ℕ) (x : X) → k < length xs → x ≡ get_or xs k x → take (suc k) xs ≡ take k xs ++ x ∷ []
  take-cons-at [] k x h e = absurd (omega arith)
  take-cons-at (y ∷ xs) zero x h e = ap (λ (z : X). z ∷ []) (sym e)
  take-cons-at (y ∷ xs) (suc k) x h e = ap (λ (zs : List X). y ∷ zs) (take-cons-at xs k x (omega arith) e)

  drop-none : (xs : List X) (k : ℕ) → length xs ≤ k → drop k xs ≡ []
  drop-none [] zero h = refl
  drop-none [] (suc k) h = refl
  drop-none (x ∷ xs) zero h = absurd (omega arith)
  drop-none (x ∷ xs) (suc k) h = drop-none xs k (omega arith)

  get-behind : (xs ys : List X) (x d : X) → get_or (xs ++ x ∷ ys) (length xs) d ≡ x
  get-behind [] ys x d = refl
  get-behind (y ∷ xs) ys x d = get-behind xs ys x d

  push-cons : (xs ys : List X) (x : X) → xs ++ x ∷ ys ≡ (xs ++ x ∷ []) ++ ys
  push-cons xs ys x = sym (append_assoc xs (x ∷ []) ys)

  length-push : (xs : List X) (x : X) → length (xs ++ x ∷ []) ≡ suc (length xs)
  length-push [] x = refl
  length-push (y ∷ xs) x = ap suc (length-push xs x)

-- a reference that is numbered anew reads the same literals
same_from : (cs before : List (List Literal)) (rs : List ℕ) → clauses_at (before ++ chosen cs rs) (renumbered (length before) rs) ≡ clauses_at cs rs
same_from cs before [] = refl
same_from cs before (zero ∷ rs) = ap (λ (l : List (List Literal)). [] ∷ l) (same_from cs before rs)
same_from cs before (suc k ∷ rs) =
    let c : List Literal = get_or cs k [] in
    let rest : clauses_at ((before ++ c ∷ []) ++ chosen cs rs) (renumbered (length (before ++ c ∷ [])) rs) ≡ clauses_at cs rs = same_from cs (before ++ c ∷ []) rs in
    ap (λ (d : List Literal). d ∷ clauses_at (before ++ c ∷ chosen cs rs) (renumbered (suc (length before)) rs)) (get-behind before (chosen cs rs) c [])
    ∙ ap (λ (l : List (List Literal)). c ∷ l) (rw (length-push before c, append_assoc before (c ∷ []) (chosen cs rs)) at rest)

pub compacted-same : (cs : List (List Literal)) (rs : List ℕ) → clauses_at (chosen cs rs) (renumbered 0 rs) ≡ clauses_at cs rs
compacted-same cs rs = same_from cs [] rs

-- the words after a clause was moved down
pub record IsMoved (old new : List Literal) (used start len : ℕ) : Type 0 where
  pub size : length new ≡ length old
  pub front : take used new ≡ take used old
  pub moved : take len (drop used new) ≡ take len (drop start old)
  pub behind : drop (used + len) new ≡ drop (used + len) old

module _ {X : Type 0} where
  take-seam : (xs ys : List X) (n : ℕ) → length xs ≡ n → take n (xs ++ ys) ≡ xs
  take-seam xs ys n h = rw h at (take-append_seam xs ys)

  drop-seam : (xs ys : List X) (n : ℕ) → length xs ≡ n → drop n (xs ++ ys) ≡ ys
  drop-seam xs ys n h = rw h at (seam xs)
    where
      seam : (zs : List X) → drop (length zs) (zs ++ ys) ≡ ys
      seam [] = refl
      seam (z ∷ zs) = seam zs

pub moved : (old new : List Literal) (used start len : ℕ) → used + len ≤ length old → start + len ≤ length old → new ≡ copy_within old start (start + len) used → IsMoved old new used start len
moved old new used start len into out e =
    let n : start + len - start ≡ len = omega arith in
    let mid : List Literal = take len (drop start old) in
    let is : new ≡ (take used old ++ mid) ++ drop (used + len) old = rw n at e in
    let a : length (take used old) ≡ used = length-take-le used old (omega arith) in
    let b : length mid ≡ len = length-take-le len (drop start old) (omega (arith, length-drop start old)) in
    let split : new ≡ take used old ++ (mid ++ drop (used + len) old) = is ∙ append_assoc (take used old) mid (drop (used + len) old) in
    let after : drop used new ≡ mid ++ drop (used + len) old = ap (drop used) split ∙ drop-seam (take used old) (mid ++ drop (used + len) old) used a in
    record {
      size = ap length is ∙ length-append (take used old ++ mid) (drop (used + len) old) ∙ omega (arith, length-append (take used old) mid, length-drop (used + len) old);
      front = ap (take used) split ∙ take-seam (take used old) (mid ++ drop (used + len) old) used a;
      moved = ap (take len) after ∙ take-seam mid (drop (used + len) old) len b;
      behind = sym (drop-drop len used new) ∙ ap (drop len) after ∙ drop-seam mid (drop (used + len) old) len b;
    }

-- the first k references are through: the clauses of the first `last` were looked at, up to the word `from`
pub record IsCompacting (lits : List Literal) (places : List Place) (refs : List ℕ) (new_lits : List Literal) (new_places : List Place) (new_refs : List ℕ) (k used kept : ℕ) : Type 0 where
  pub last : ℕ
  pub from : ℕ
  pub order : AreInOrder last (length places) (drop k refs)
  pub kept_first : kept ≤ last
  pub rest_places : drop last new_places ≡ drop last places
  pub count : length new_places ≡ length places
  pub rest_laid : AreLaidOut from (drop last places) (length lits)
  pub used_first : used ≤ from
  pub rest_lits : drop from new_lits ≡ drop from lits
  pub size : length new_lits ≡ length lits
  pub laid : AreLaidOut 0 (take kept new_places) used
  pub clauses : chosen (clauses_in lits places) refs ≡ clauses_in new_lits (take kept new_places) ++ chosen (clauses_in lits places) (drop k refs)
  pub numbers : renumbered 0 refs ≡ take k new_refs ++ renumbered kept (drop k refs)
  pub rest_refs : drop k new_refs ≡ drop k refs
  pub ref_count : length new_refs ≡ length refs

pub begins : (lits : List Literal) (places : List Place) (refs : List ℕ) → AreInOrder 0 (length places) refs → AreLaidOut 0 places (length lits) → IsCompacting lits places refs lits places refs 0 0 0
begins lits places refs order laid = record {
  last = 0;
  from = 0;
  order = order;
  kept_first = omega arith;
  rest_places = refl;
  count = refl;
  rest_laid = laid;
  used_first = omega arith;
  rest_lits = refl;
  size = refl;
  laid = refl;
  clauses = refl;
  numbers = refl;
  rest_refs = refl;
  ref_count = refl;
}

-- the reference at k is still the old one
ref_here : (refs new_refs : List ℕ) (k r : ℕ) → k < length new_refs → drop k new_refs ≡ drop k refs → r ≡ get_or new_refs k r → drop k refs ≡ r ∷ drop (suc k) refs
ref_here refs new_refs k r h e is =
    sym e ∙ drop-cons-at new_refs k r h is ∙ ap (λ (l : List ℕ). r ∷ l) (drop-suc new_refs k ∙ ap tail e ∙ sym (drop-suc refs k))

module _ (lits : List Literal) (places : List Place) (refs : List ℕ) (new_lits : List Literal) (new_places : List Place) (new_refs : List ℕ) (k used kept : ℕ) where
  -- a clause without literals stays where it is: nowhere
  pub passes : IsCompacting lits places refs new_lits new_places new_refs k used kept → k < length new_refs → (r : ℕ) → r ≡ get_or new_refs k r → r ≡ 0 → IsCompacting lits places refs new_lits new_places new_refs (suc k) used kept
  passes s h r is none =
      let here : drop k refs ≡ zero ∷ drop (suc k) refs = rw none at (ref_here refs new_refs k r h s.rest_refs is) in
      let zero_here : zero ≡ get_or new_refs k zero = rw none at is in
      record {
        last = s.last;
        from = s.from;
        order = rw here at s.order;
        kept_first = s.kept_first;
        rest_places = s.rest_places;
        count = s.count;
        rest_laid = s.rest_laid;
        used_first = s.used_first;
        rest_lits = s.rest_lits;
        size = s.size;
        laid = s.laid;
        clauses = rw here at s.clauses;
        numbers =
            rw here at s.numbers ∙ push-cons (take k new_refs) (renumbered kept (drop (suc k) refs)) zero
            ∙ ap (λ (l : List ℕ). l ++ renumbered kept (drop (suc k) refs)) (sym (take-cons-at new_refs k zero h zero_here));
        rest_refs = drop-later new_refs refs k (suc k) (omega arith) s.rest_refs;
        ref_count = s.ref_count;
      }

  -- what is known of the clause of a reference that is next
  pub record IsNext (j : ℕ) (p : Place) : Type 0 where
    pub fits : j < length new_places
    pub within : p.start + p.len ≤ length new_lits
    pub room : used + p.len ≤ length new_lits
    pub kept_fits : kept < length new_places
    pub ahead : used ≤ p.start
    pub some : 0 < p.len

  next_at : IsCompacting lits places refs new_lits new_places new_refs k used kept → k < length new_refs → (j : ℕ) → suc j ≡ get_or new_refs k (suc j) → drop k refs ≡ suc j ∷ drop (suc k) refs
  next_at s h j is = ref_here refs new_refs k (suc j) h s.rest_refs is

  pub next_fits : IsCompacting lits places refs new_lits new_places new_refs k used kept → k < length new_refs → (j : ℕ) → suc j ≡ get_or new_refs k (suc j) → j < length new_places
  next_fits s h j is =
      let order : (s.last ≤ j) × (j < length places) × AreInOrder (suc j) (length places) (drop (suc k) refs) = rw (next_at s h j is) at s.order in
      let fits = order.1 in
      let count = s.count in
      omega arith

  same_place : (s : IsCompacting lits places refs new_lits new_places new_refs k used kept) (j : ℕ) (p : Place) → s.last ≤ j → p ≡ get_or new_places j p → p ≡ get_or (drop s.last places) (j - s.last) p
  same_place s j p le is = is ∙ get-drop new_places s.last j p le ∙ ap (λ (ps : List Place). get_or ps (j - s.last) p) s.rest_places

  place_is : (s : IsCompacting lits places refs new_lits new_places new_refs k used kept) (j : ℕ) (p : Place) → s.last ≤ j → j < length places → p ≡ get_or new_places j p
      → (s.from ≤ p.start) × (0 < p.len) × AreLaidOut (p.start + p.len) (drop (suc j) places) (length lits) × (p.start + p.len ≤ length lits)
  place_is s j p le fits is =
      let at : IsPlaceAt s.from (length lits) (drop s.last places) (j - s.last) p = laid-at s.from (length lits) (drop s.last places) (j - s.last) p s.rest_laid (omega (arith, length-drop s.last places)) in
      let same : get_or (drop s.last places) (j - s.last) p ≡ p = sym (same_place s j p le is) in
      let behind : drop (suc (j - s.last)) (drop s.last places) ≡ drop (suc j) places =
      drop-drop (suc (j - s.last)) s.last places ∙ (let at_j : s.last + suc (j - s.last) ≡ suc j = omega arith in rw at_j refl) in
      (rw same at at.from, rw same at at.some, rw (same, behind) at at.rest, rw same at at.within)

  pub next_place : IsCompacting lits places refs new_lits new_places new_refs k used kept → k < length new_refs → (j : ℕ) → suc j ≡ get_or new_refs k (suc j) → (p : Place) → p ≡ get_or new_places j p → IsNext j p
  next_place s h j is p p_is =
      let order : (s.last ≤ j) × (j < length places) × AreInOrder (suc j) (length places) (drop (suc k) refs) = rw (next_at s h j is) at s.order in
      let low = order.0 in
      let fits = order.1 in
      let count = s.count in
      let size = s.size in
      let at = place_is s j p order.0 order.1 p_is in
      let from = at.0 in
      let some = at.1 in
      let within = at.3 in
      let first = s.used_first in
      let kept_low = s.kept_first in
      record { fits = omega arith; within = omega arith; room = omega arith; kept_fits = omega arith; ahead = omega arith; some = some }

  -- the next clause is moved down, and its reference numbered anew
  pub keeps : IsCompacting lits places refs new_lits new_places new_refs k used kept → k < length new_refs → (j : ℕ) → suc j ≡ get_or new_refs k (suc j) → (p q : Place) → p ≡ get_or new_places j p
      → (moved_lits : List Literal) → IsMoved new_lits moved_lits used p.start p.len → q.start ≡ used → q.len ≡ p.len
      → IsCompacting lits places refs moved_lits (set new_places kept q) (set new_refs k (suc kept)) (suc k) (used + p.len) (suc kept)
  keeps s h j is p q p_is moved_lits m q_start q_len =
      let here : drop k refs ≡ suc j ∷ drop (suc k) refs = next_at s h j is in
      let order : (s.last ≤ j) × (j < length places) × AreInOrder (suc j) (length places) (drop (suc k) refs) = rw here at s.order in
      let low = order.0 in
      let fits = order.1 in
      let count = s.count in
      let at = place_is s j p order.0 order.1 p_is in
      let from = at.0 in
      let some = at.1 in
      let first = s.used_first in
      let kept_low = s.kept_first in
      let taken : take (suc kept) (set new_places kept q) ≡ take kept new_places ++ q ∷ [] = take-suc-set new_places kept q (omega arith) in
      let clause : literals_in moved_lits q ≡ get_or (clauses_in lits places) j [] =
      rw (q_start, q_len) (m.moved ∙ ap (take p.len) (drop-later new_lits lits s.from p.start from s.rest_lits)
      ∙ sym (get-clauses_in lits places j p fits ∙ ap (literals_in lits) (place_there s j p low p_is))) in
      let before : clauses_in moved_lits (take kept new_places) ≡ clauses_in new_lits (take kept new_places) =
      sym (clauses_in-cut moved_lits used 0 (take kept new_places) used s.laid (omega arith))
      ∙ ap (λ (l : List Literal). clauses_in l (take kept new_places)) m.front
      ∙ clauses_in-cut new_lits used 0 (take kept new_places) used s.laid (omega arith) in
      record {
        last = suc j;
        from = p.start + p.len;
        order = order.2;
        kept_first = omega arith;
        rest_places = drop-set-lt (suc j) new_places kept q (omega arith) ∙ drop-later new_places places s.last (suc j) (omega arith) s.rest_places;
        count = length-set new_places kept q ∙ s.count;
        rest_laid = at.2;
        used_first = omega arith;
        rest_lits = drop-later moved_lits new_lits (used + p.len) (p.start + p.len) (omega arith) m.behind ∙ drop-later new_lits lits s.from (p.start + p.len) (omega arith) s.rest_lits;
        size = m.size ∙ s.size;
        laid = rw (taken, ← q_len) (laid-push 0 used (take kept new_places) q s.laid q_start (rw q_len some));
        clauses =
            rw here at s.clauses ∙ push-cons (clauses_in new_lits (take kept new_places)) (chosen (clauses_in lits places) (drop (suc k) refs)) (get_or (clauses_in lits places) j [])
            ∙ ap (λ (l : List (List Literal)). l ++ chosen (clauses_in lits places) (drop (suc k) refs))
            (sym (ap (clauses_in moved_lits) taken ∙ clauses_in-append moved_lits (take kept new_places) (q ∷ []) ∙ rw (before, clause) refl));
        numbers =
            rw here at s.numbers ∙ push-cons (take k new_refs) (renumbered (suc kept) (drop (suc k) refs)) (suc kept)
            ∙ ap (λ (l : List ℕ). l ++ renumbered (suc kept) (drop (suc k) refs)) (sym (take-suc-set new_refs k (suc kept) h));
        rest_refs = drop-set-lt (suc k) new_refs k (suc kept) (omega arith) ∙ drop-later new_refs refs k (suc k) (omega arith) s.rest_refs;
        ref_count = length-set new_refs k (suc kept) ∙ s.ref_count;
      }
    where
      place_there : (s : IsCompacting lits places refs new_lits new_places new_refs k used kept) (j : ℕ) (p : Place) → s.last ≤ j → p ≡ get_or new_places j p → get_or places j p ≡ p
      place_there s j p le is = get-drop places s.last j p le ∙ sym (same_place s j p le is)

  -- the same for a reference that is not 0
  pub next_number : IsCompacting lits places refs new_lits new_places new_refs k used kept → k < length new_refs → (number : ℕ) → (number ≡ 0 → ⊥) → number ≡ get_or new_refs k number → (p : Place) → p ≡ get_or new_places (number - 1) p → IsNext (number - 1) p
  next_number s h zero some is p p_is = absurd (some refl)
  next_number s h (suc j) some is p p_is = let one : suc j - 1 ≡ j = omega arith in rw one (next_place s h j is p (rw one at p_is))

  pub number_fits : IsCompacting lits places refs new_lits new_places new_refs k used kept → k < length new_refs → (number : ℕ) → (number ≡ 0 → ⊥) → number ≡ get_or new_refs k number → number - 1 < length new_places
  number_fits s h zero some is = absurd (some refl)
  number_fits s h (suc j) some is = let fits = next_fits s h j is in omega arith

  pub keeps_number : IsCompacting lits places refs new_lits new_places new_refs k used kept → k < length new_refs → (number : ℕ) → (number ≡ 0 → ⊥) → number ≡ get_or new_refs k number → (p q : Place) → p ≡ get_or new_places (number - 1) p
      → (moved_lits : List Literal) → IsMoved new_lits moved_lits used p.start p.len → q.start ≡ used → q.len ≡ p.len
      → IsCompacting lits places refs moved_lits (set new_places kept q) (set new_refs k (suc kept)) (suc k) (used + p.len) (suc kept)
  keeps_number s h zero some is p q p_is moved_lits m q_start q_len = absurd (some refl)
  keeps_number s h (suc j) some is p q p_is moved_lits m q_start q_len = let one : suc j - 1 ≡ j = omega arith in keeps s h j is p q (rw one at p_is) moved_lits m q_start q_len

-- at the end what is kept is what was chosen
pub record IsCompacted (lits : List Literal) (places : List Place) (refs : List ℕ) (new_lits : List Literal) (new_places : List Place) (new_refs : List ℕ) : Type 0 where
  pub laid : AreLaidOut 0 new_places (length new_lits)
  pub smaller : length new_lits ≤ length lits
  pub clauses : clauses_in new_lits new_places ≡ chosen (clauses_in lits places) refs
  pub numbers : new_refs ≡ renumbered 0 refs
  pub same : clauses_at (clauses_in new_lits new_places) new_refs ≡ clauses_at (clauses_in lits places) refs

pub ends : (lits : List Literal) (places : List Place) (refs : List ℕ) (new_lits : List Literal) (new_places : List Place) (new_refs : List ℕ) (k used kept : ℕ) → IsCompacting lits places refs new_lits new_places new_refs k used kept
    → length new_refs ≤ k → IsCompacted lits places refs (take used new_lits) (take kept new_places) new_refs
ends lits places refs new_lits new_places new_refs k used kept s h =
    let ref_count = s.ref_count in
    let size = s.size in
    let first = s.used_first in
    let all = laid_words s.from (length lits) (drop s.last places) s.rest_laid in
    let none : drop k refs ≡ [] = drop-none refs k (omega arith) in
    let len : length (take used new_lits) ≡ used = length-take-le used new_lits (omega arith) in
    let clauses : clauses_in (take used new_lits) (take kept new_places) ≡ chosen (clauses_in lits places) refs =
    clauses_in-cut new_lits used 0 (take kept new_places) used s.laid (omega arith) ∙ sym (append-nil (clauses_in new_lits (take kept new_places))) ∙ sym (rw none at s.clauses) in
    let numbers : new_refs ≡ renumbered 0 refs = sym (rw none at s.numbers ∙ append-nil (take k new_refs) ∙ take_all k new_refs h) in
    record {
      laid = rw len s.laid;
      smaller = omega arith;
      clauses = clauses;
      numbers = numbers;
      same = rw (clauses, numbers) (compacted-same (clauses_in lits places) refs);
    }

-- the references numbered anew are live, and in order
numbered_from : (cs : List (List Literal)) (rs : List ℕ) (count all : ℕ) → all ≡ count + length (chosen cs rs) → AreInOrder count all (renumbered count rs)
numbered_from cs [] count all e = tt
numbered_from cs (zero ∷ rs) count all e = numbered_from cs rs count all e
numbered_from cs (suc k ∷ rs) count all e = (omega arith, omega arith, numbered_from cs rs (suc count) all (omega arith))

pub numbered : (cs : List (List Literal)) (rs : List ℕ) → AreInOrder 0 (length (chosen cs rs)) (renumbered 0 rs)
numbered cs rs = numbered_from cs rs 0 (length (chosen cs rs)) (omega arith)
