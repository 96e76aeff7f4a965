-- Clauses that lie one after another.
use Rattle.std.proofs.Common.{◌≡◌, ℕ, zero, suc, ◌+◌, ◌-◌, ◌<◌, ◌≤◌, List, [], ◌∷◌, ◌++◌, length, get_or, take, drop, refl, sym, ap, subst, ◌∙◌, arith, eqb, false}
use Rattle.std.proofs.lemmas.List.{length-take, length-take-le, length-append, take-append-le, length-drop}
use Rattle.zo_core.specs.Literals.{Literal}
use Rattle.lit_region.specs.declared.region.Place.{Place}
use Rattle.lit_region.specs.Contents.{Contents, word_count, clause_at}
use Rattle.lit_region.specs.Places.{literals_in, clauses_in, AreLaidOut, AreParts}

-- the words that places take
abbrev pub words_of : List Place → ℕ
words_of [] = 0
words_of (p ∷ ps) = p.len + words_of ps

pub laid_words : (start end : ℕ) (ps : List Place) → AreLaidOut start ps end → start + words_of ps ≡ end
laid_words start end [] h = omega arith
laid_words start end (p ∷ ps) h = let rest = laid_words (start + p.len) end ps h.2 in omega arith

-- each takes a word at least
pub laid_count : (start end : ℕ) (ps : List Place) → AreLaidOut start ps end → start + length ps ≤ end
laid_count start end [] h = omega arith
laid_count start end (p ∷ ps) h =
    let rest : start + p.len + length ps ≤ end = laid_count (start + p.len) end ps h.2 in
    let some : 0 < p.len = h.1 in
    omega arith

length-literals_in : (lits : List Literal) (p : Place) → p.start + p.len ≤ length lits → length (literals_in lits p) ≡ p.len
length-literals_in lits p h =
    let cut : length (drop p.start lits) ≡ length lits - p.start = length-drop p.start lits in
    length-take p.len (drop p.start lits) ∙ omega arith

-- so the words of the clauses are the words of the places
pub laid_word_count : (lits : List Literal) (start : ℕ) (ps : List Place) → AreLaidOut start ps (length lits) → start + word_count (clauses_in lits ps) ≡ length lits
laid_word_count lits start [] h = omega arith
laid_word_count lits start (p ∷ ps) h =
    let rest = laid_word_count lits (start + p.len) ps h.2 in
    let all = laid_words (start + p.len) (length lits) ps h.2 in
    let at : p.start ≡ start = h.0 in
    let one : length (literals_in lits p) ≡ p.len = length-literals_in lits p (omega arith) in
    omega arith

pub length-clauses_in : (lits : List Literal) (ps : List Place) → length (clauses_in lits ps) ≡ length ps
length-clauses_in lits [] = refl
length-clauses_in lits (p ∷ ps) = ap suc (length-clauses_in lits ps)

pub clauses_in-append : (lits : List Literal) (ps qs : List Place) → clauses_in lits (ps ++ qs) ≡ clauses_in lits ps ++ clauses_in lits qs
clauses_in-append lits [] qs = refl
clauses_in-append lits (p ∷ ps) qs = ap (λ (cs : List (List Literal)). literals_in lits p ∷ cs) (clauses_in-append lits ps qs)

pub clauses_in-take : (lits : List Literal) (ps : List Place) (n : ℕ) → clauses_in lits (take n ps) ≡ take n (clauses_in lits ps)
clauses_in-take lits ps zero = refl
clauses_in-take lits [] (suc n) = refl
clauses_in-take lits (p ∷ ps) (suc n) = ap (λ (cs : List (List Literal)). literals_in lits p ∷ cs) (clauses_in-take lits ps n)

pub get-clauses_in : (lits : List Literal) (ps : List Place) (k : ℕ) (p : Place) → k < length ps → get_or (clauses_in lits ps) k [] ≡ literals_in lits (get_or ps k p)
get-clauses_in lits [] k p h = absurd (omega arith)
get-clauses_in lits (q ∷ ps) zero p h = refl
get-clauses_in lits (q ∷ ps) (suc k) p h = get-clauses_in lits ps k p (omega arith)

-- what a reference reads
pub read : (lits : List Literal) (places : List Place) (cs : List (List Literal)) (number : ℕ) (p : Place) → (number ≡ 0 → ⊥) → number - 1 < length places → p ≡ get_or places (number - 1) p → clauses_in lits places ≡ cs
    → take (p.start + p.len - p.start) (drop p.start lits) ≡ clause_at cs number
read lits places cs zero p some fits is view = absurd (some refl)
read lits places cs (suc k) p some fits is view =
    let one : suc k - 1 ≡ k = omega arith in
    let n : p.start + p.len - p.start ≡ p.len = omega arith in
    rw n (ap (literals_in lits) (rw one at is) ∙ sym (get-clauses_in lits places k p (omega arith)) ∙ ap (λ (l : List (List Literal)). get_or l k []) view)

-- one clause more behind the others
pub laid-push : (start end : ℕ) (ps : List Place) (p : Place) → AreLaidOut start ps end → p.start ≡ end → 0 < p.len → AreLaidOut start (ps ++ p ∷ []) (end + p.len)
laid-push start end [] p h at some = (at ∙ sym h, some, ap (λ n. n + p.len) h)
laid-push start end (q ∷ ps) p h at some = (h.0, h.1, laid-push (start + q.len) end ps p h.2 at some)

drop-all : (c : List Literal) → drop (length c) c ≡ []
drop-all [] = refl
drop-all (l ∷ c) = drop-all c

take-drop-append : (a b : List Literal) (start len : ℕ) → start + len ≤ length a → take len (drop start (a ++ b)) ≡ take len (drop start a)
take-drop-append a b zero len h = take-append-le len a b (omega arith)
take-drop-append [] b (suc start) len h = absurd (omega arith)
take-drop-append (l ∷ a) b (suc start) len h = take-drop-append a b start len (omega arith)

-- clauses read the same where words are added behind them
pub clauses_in-more : (a b : List Literal) (start : ℕ) (ps : List Place) (end : ℕ) → AreLaidOut start ps end → end ≤ length a → clauses_in (a ++ b) ps ≡ clauses_in a ps
clauses_in-more a b start [] end h fits = refl
clauses_in-more a b start (p ∷ ps) end h fits =
    let all = laid_words (start + p.len) end ps h.2 in
    let at : p.start ≡ start = h.0 in
    ap (λ (c : List Literal). c ∷ clauses_in (a ++ b) ps) (take-drop-append a b p.start p.len (omega arith))
    ∙ ap (λ (cs : List (List Literal)). literals_in a p ∷ cs) (clauses_in-more a b (start + p.len) ps end h.2 fits)

literals_in-last : (a b : List Literal) → take (length b) (drop (length a) (a ++ b)) ≡ b
literals_in-last [] b = whole b
  where
    whole : (c : List Literal) → take (length c) c ≡ c
    whole [] = refl
    whole (l ∷ c) = ap (λ (d : List Literal). l ∷ d) (whole c)
literals_in-last (l ∷ a) b = literals_in-last a b

pub clauses_in-push : (a b : List Literal) (ps : List Place) (p : Place) → AreLaidOut 0 ps (length a) → p.start ≡ length a → p.len ≡ length b → clauses_in (a ++ b) (ps ++ p ∷ []) ≡ clauses_in a ps ++ b ∷ []
clauses_in-push a b ps p h at len =
    clauses_in-append (a ++ b) ps (p ∷ [])
    ∙ ap (λ (cs : List (List Literal)). cs ++ literals_in (a ++ b) p ∷ []) (clauses_in-more a b 0 ps (length a) h (omega arith))
    ∙ ap (λ (c : List Literal). clauses_in a ps ++ c ∷ []) (rw (at, len) (literals_in-last a b))

take-drop-take : (a : List Literal) (n start len : ℕ) → start + len ≤ n → take len (drop start (take n a)) ≡ take len (drop start a)
take-drop-take a n zero len h = take-take-le a n len (omega arith)
  where
    take-take-le : (c : List Literal) (m k : ℕ) → k ≤ m → take k (take m c) ≡ take k c
    take-take-le c m zero le = refl
    take-take-le c zero (suc k) le = absurd (omega arith)
    take-take-le [] (suc m) (suc k) le = refl
    take-take-le (l ∷ c) (suc m) (suc k) le = ap (λ (d : List Literal). l ∷ d) (take-take-le c m k (omega arith))
take-drop-take a zero (suc start) len h = absurd (omega arith)
take-drop-take [] (suc n) (suc start) len h = refl
take-drop-take (l ∷ a) (suc n) (suc start) len h = take-drop-take a n start len (omega arith)

-- clauses read the same where the words behind them are cut off
pub clauses_in-cut : (a : List Literal) (n start : ℕ) (ps : List Place) (end : ℕ) → AreLaidOut start ps end → end ≤ n → clauses_in (take n a) ps ≡ clauses_in a ps
clauses_in-cut a n start [] end h fits = refl
clauses_in-cut a n start (p ∷ ps) end h fits =
    let all = laid_words (start + p.len) end ps h.2 in
    let at : p.start ≡ start = h.0 in
    ap (λ (c : List Literal). c ∷ clauses_in (take n a) ps) (take-drop-take a n p.start p.len (omega arith))
    ∙ ap (λ (cs : List (List Literal)). literals_in a p ∷ cs) (clauses_in-cut a n (start + p.len) ps end h.2 fits)

-- the places before the one at k end where it starts
pub laid-take : (start end : ℕ) (ps : List Place) (k : ℕ) (p : Place) → AreLaidOut start ps end → k < length ps → AreLaidOut start (take k ps) (get_or ps k p).start
laid-take start end [] k p h lt = absurd (omega arith)
laid-take start end (q ∷ ps) zero p h lt = sym h.0
laid-take start end (q ∷ ps) (suc k) p h lt = (h.0, h.1, laid-take (start + q.len) end ps k p h.2 (omega arith))

-- the place at k, and those behind it
pub record IsPlaceAt (start end : ℕ) (ps : List Place) (k : ℕ) (p : Place) : Type 0 where
  pub from : start ≤ (get_or ps k p).start
  pub some : 0 < (get_or ps k p).len
  pub rest : AreLaidOut ((get_or ps k p).start + (get_or ps k p).len) (drop (suc k) ps) end
  pub within : (get_or ps k p).start + (get_or ps k p).len ≤ end

pub laid-at : (start end : ℕ) (ps : List Place) (k : ℕ) (p : Place) → AreLaidOut start ps end → k < length ps → IsPlaceAt start end ps k p
laid-at start end [] k p h lt = absurd (omega arith)
laid-at start end (q ∷ ps) zero p h lt =
    let at : q.start ≡ start = h.0 in
    let P : ℕ → Type 0 = λ n. AreLaidOut (n + q.len) ps end in
    let all = laid_words (start + q.len) end ps h.2 in
    record { from = omega arith; some = h.1; rest = subst P (sym at) h.2; within = omega arith }
laid-at start end (q ∷ ps) (suc k) p h lt =
    let inner : IsPlaceAt (start + q.len) end ps k p = laid-at (start + q.len) end ps k p h.2 (omega arith) in
    let low = inner.from in
    record { from = omega arith; some = inner.some; rest = inner.rest; within = inner.within }

module _ (lits : List Literal) (lits_len lits_room : ℕ) (places : List Place) (places_len places_room size : ℕ) (seen : Contents) where
  abbrev IsSeen : Type 0
  IsSeen = record { size = size; clauses = clauses_in lits places } ≡ seen

  -- the words in use
  pub used_words : AreParts lits lits_len lits_room places places_len places_room size → IsSeen → lits_len ≡ word_count seen.clauses
  used_words a e =
      let count = laid_word_count lits 0 places (rw a.lits_count at a.laid) in
      let view : word_count (clauses_in lits places) ≡ word_count seen.clauses = ap (λ (r : Contents). word_count r.clauses) e in
      let all = a.lits_count in
      omega arith

  -- the clauses in use
  pub used_places : AreParts lits lits_len lits_room places places_len places_room size → IsSeen → places_len ≡ length seen.clauses
  used_places a e = a.places_count ∙ sym (length-clauses_in lits places) ∙ ap (λ (r : Contents). length r.clauses) e

  -- there are no more clauses than words
  pub few_places : AreParts lits lits_len lits_room places places_len places_room size → places_len ≤ lits_len
  few_places a =
      let few = laid_count 0 lits_len places a.laid in
      let all = a.places_count in
      omega arith

-- the parts with one clause more
pub put_parts : (lits : List Literal) (lits_len lits_room : ℕ) (places : List Place) (places_len places_room size : ℕ) → AreParts lits lits_len lits_room places places_len places_room size
    → (b : List Literal) (p : Place) (more_lits_room more_places_room : ℕ) → 0 < length b → lits_len + length b ≤ size → p.start ≡ lits_len → p.len ≡ length b → lits_room ≤ more_lits_room → places_room ≤ more_places_room
    → AreParts (lits ++ b) (lits_len + length b) more_lits_room (places ++ p ∷ []) (places_len + 1) more_places_room size
put_parts lits lits_len lits_room places places_len places_room size a b p more_lits_room more_places_room some fits start len lits_more places_more =
    let lits_fit = a.lits_fit in
    let places_fit = a.places_fit in
    let count = a.lits_count in
    let places_count = a.places_count in
    record {
      laid = rw (← len) (laid-push 0 lits_len places p a.laid start (omega arith));
      lits_count = omega (arith, length-append lits b);
      places_count = omega (arith, length-append places (p ∷ []));
      within = fits;
      small = a.small;
      lits_fit = omega arith;
      places_fit = omega arith;
    }

-- the parts with the last places cut off, and the literals to which they lead
pub cut_parts : (lits : List Literal) (lits_len lits_room : ℕ) (places : List Place) (places_len places_room size : ℕ) → AreParts lits lits_len lits_room places places_len places_room size
    → (k : ℕ) (p : Place) → k < length places → p ≡ get_or places k p → (cut_len cut_count : ℕ) → cut_len + (lits_len - p.start) ≡ lits_len → cut_count + (places_len - k) ≡ places_len
    → AreParts (take p.start lits) cut_len lits_room (take k places) cut_count places_room size × (clauses_in (take p.start lits) (take k places) ≡ take k (clauses_in lits places))
cut_parts lits lits_len lits_room places places_len places_room size a k p h is cut_len cut_count len count =
    let at : IsPlaceAt 0 lits_len places k p = laid-at 0 lits_len places k p a.laid h in
    let within = rw (← is) at at.within in
    let lits_count = a.lits_count in
    let places_count = a.places_count in
    let laid : AreLaidOut 0 (take k places) p.start = rw (← is) at (laid-take 0 lits_len places k p a.laid h) in
    let same : cut_len ≡ p.start = omega arith in
    let inside = a.within in (
      record {
        laid = rw same laid;
        lits_count = same ∙ sym (length-take-le p.start lits (omega arith));
        places_count = (let few : cut_count ≡ k = omega arith in few) ∙ sym (length-take-le k places (omega arith));
        within = omega arith;
        small = a.small;
        lits_fit = a.lits_fit;
        places_fit = a.places_fit;
      },
      clauses_in-cut lits p.start 0 (take k places) p.start laid (omega arith) ∙ clauses_in-take lits places k,
    )

pub nonzero : (n : ℕ) → eqb n 0 ≡ false → 0 < n
nonzero zero e = absurd (cc)
nonzero (suc n) e = omega arith

-- what `truncate` leaves
pub truncated : {X : Type 0} (xs : List X) (n m len : ℕ) → len ≡ length xs → m + (len - n) ≡ len → m ≡ length (take n xs)
truncated xs n m len e h = let cut = length-take n xs in omega arith

get-append : (cs ds : List (List Literal)) (k : ℕ) → k < length cs → get_or (cs ++ ds) k [] ≡ get_or cs k []
get-append [] ds k h = absurd (omega arith)
get-append (c ∷ cs) ds zero h = refl
get-append (c ∷ cs) ds (suc k) h = get-append cs ds k (omega arith)

pub clause_at-append : (cs ds : List (List Literal)) (at : ℕ) → at ≤ length cs → clause_at (cs ++ ds) at ≡ clause_at cs at
clause_at-append cs ds zero h = refl
clause_at-append cs ds (suc k) h = get-append cs ds k (omega arith)

get-take : (cs : List (List Literal)) (n k : ℕ) → k < n → get_or (take n cs) k [] ≡ get_or cs k []
get-take cs zero k h = absurd (omega arith)
get-take [] (suc n) k h = refl
get-take (c ∷ cs) (suc n) zero h = refl
get-take (c ∷ cs) (suc n) (suc k) h = get-take cs n k (omega arith)

pub clause_at-take : (cs : List (List Literal)) (n at : ℕ) → at ≤ n → clause_at (take n cs) at ≡ clause_at cs at
clause_at-take cs n zero h = refl
clause_at-take cs n (suc k) h = get-take cs n k (omega arith)
