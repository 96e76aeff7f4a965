-- Unknowns that stand one after another.
use Rattle.std.proofs.Common.{◌≡◌, ◌+◌, ◌-◌, ◌<◌, ◌≤◌, ◌∷◌, ◌++◌, ◌∙◌, ◌⊎◌, inl, inr, [], ℕ, zero, suc, Bool, true, false, List, length, get_or, take, drop, refl, sym, ap, subst, arith}
use Rattle.std.proofs.lemmas.Bool.{cases_Bool}
use Rattle.std.proofs.lemmas.List.{length-append, append_assoc, append-nil, length-map, get_or_append_left, get_or-append_right}
use Rattle.std.proofs.lemmas.List.Elements.{Contains-append_left, Contains-append_right, Contains-get_or, filter-append}
use Rattle.std.specs.Prelude.{map}
use Rattle.std.specs.List.{Contains, filter, range_with_len, position_or_len, count_by}
use Rattle.std.proofs.lemmas.List.Sums.{position_or_len_is, length-filter}
use Rattle.std.proofs.Math.Seq.{drop-append_seam, take-append_seam}
use Rattle.zo_core.specs.declared.number_range.NumberRange.{NumberRange}
use Rattle.owner_vars.specs.Rows.{range_where}
use Rattle.owner_vars.specs.Unknowns.{Unknown, Phi, count_from, number_of}
use Rattle.owner_vars.proofs.Lists.{contains_head, contains_tail, contains_map, from_count, count_from_add, length-count_from, map-append_lists}
use Rattle.owner_vars.proofs.Numbers.{number_is, count_is}

pub count_is_range : (a n : ℕ) → count_from a n ≡ range_with_len a n
count_is_range a zero = refl
count_is_range a (suc n) =
    let next : suc a ≡ a + 1 = omega arith in
    ap (λ us. a ∷ us) (ap (λ b. count_from b n) next ∙ count_is_range (a + 1) n)

cancel : (xs ys us vs : List ℕ) → length xs ≡ length ys → xs ++ us ≡ ys ++ vs → (xs ≡ ys) × (us ≡ vs)
cancel [] [] us vs n e = (refl, e)
cancel [] (y ∷ ys) us vs n e = absurd (omega (arith, n))
cancel (x ∷ xs) [] us vs n e = absurd (omega (arith, n))
cancel (x ∷ xs) (y ∷ ys) us vs n e =
    let head : x ≡ y = ap (λ (ks : List ℕ). get_or ks 0 0) e in
    let rest = cancel xs ys us vs (omega (arith, n)) (ap (λ (ks : List ℕ). drop 1 ks) e) in
    (ap (λ k. k ∷ xs) head ∙ ap (λ ks. y ∷ ks) rest.0, rest.1)

filter_all : (test : Unknown → Bool) (us : List Unknown) → ((u : Unknown) → Contains us u → test u ≡ true) → filter test us ≡ us
filter_all test [] h = refl
filter_all test (u ∷ us) h = rw (h u (contains_head u u us refl)) (ap (λ vs. u ∷ vs) (filter_all test us (λ v k. h v (contains_tail u v us k))))

filter_none : (test : Unknown → Bool) (us : List Unknown) → ((u : Unknown) → Contains us u → test u ≡ false) → filter test us ≡ []
filter_none test [] h = refl
filter_none test (u ∷ us) h = rw (h u (contains_head u u us refl)) (filter_none test us (λ v k. h v (contains_tail u v us k)))

map_agree : (f h : Unknown → ℕ) (us : List Unknown) → ((u : Unknown) → Contains us u → f u ≡ h u) → map f us ≡ map h us
map_agree f h [] e = refl
map_agree f h (u ∷ us) e = ap (λ n. n ∷ map f us) (e u (contains_head u u us refl)) ∙ ap (λ ns. h u ∷ ns) (map_agree f h us (λ v k. e v (contains_tail u v us k)))

from_ranks : (r : Unknown → ℕ) (us : List Unknown) (a n : ℕ) → map r us ≡ count_from a n → (u : Unknown) → Contains us u → (a ≤ r u) × (r u < a + n)
from_ranks r us a n e u h = from_count a n (r u) (subst (λ (ks : List ℕ). Contains ks (r u)) e (contains_map_of us h))
  where
    contains_map_of : (vs : List Unknown) → Contains vs u → Contains (map r vs) (r u)
    contains_map_of vs k = contains_map r vs u k

-- a part of a list whose unknowns have the numbers from 1 on
module _ (r : Unknown → ℕ) (us front part back : List Unknown) (n : ℕ) (whole : us ≡ (front ++ part) ++ back) (climb : map r us ≡ count_from 1 n) where
  pieces : (map r front ≡ count_from 1 (length front)) × (map r part ≡ count_from (1 + length front) (length part)) × (map r back ≡ count_from (1 + (length front + length part)) (length back))
  pieces =
      let a = length front in
      let b = length part in
      let d = length back in
      let long : n ≡ (a + b) + d =
      let c = count_is r us n climb in
      let w = ap (λ (vs : List Unknown). length vs) whole in
      let x = length-append (front ++ part) back in
      let y = length-append front part in
      omega (arith, c, w, x, y) in
      let left : map r us ≡ (map r front ++ map r part) ++ map r back =
      ap (map r) whole ∙ map-append_lists r (front ++ part) back ∙ ap (λ ks. ks ++ map r back) (map-append_lists r front part) in
      let right : count_from 1 n ≡ (count_from 1 a ++ count_from (1 + a) b) ++ count_from (1 + (a + b)) d =
      count_from_add 1 (a + b) d n long ∙ ap (λ ks. ks ++ count_from (1 + (a + b)) d) (count_from_add 1 a b (a + b) refl) in
      let outer = cancel (map r front ++ map r part) (count_from 1 a ++ count_from (1 + a) b) (map r back) (count_from (1 + (a + b)) d)
      (length-append (map r front) (map r part) ∙ (let x = length-map front r in let y = length-map part r in let z = length-append (count_from 1 a) (count_from (1 + a) b) in let v = length-count_from 1 a in let w = length-count_from (1 + a) b in omega (arith, x, y, z, v, w)))
      (sym left ∙ climb ∙ right) in
      let inner = cancel (map r front) (count_from 1 a) (map r part) (count_from (1 + a) b) (let x = length-map front r in let y = length-count_from 1 a in omega (arith, x, y)) outer.0 in
      (inner.0, inner.1, outer.1)

  part_in : (u : Unknown) → Contains part u → Contains us u
  part_in u h = subst (λ (vs : List Unknown). Contains vs u) (sym whole) (Contains-append_left (front ++ part) back u (Contains-append_right front part u h))

  -- their numbers are one after another
  pub part_numbers : map (number_of us) part ≡ range_with_len (1 + length front) (length part)
  part_numbers =
      map_agree (number_of us) r part (λ u h. let e = number_is r us 1 (climb ∙ ap (count_from 1) (count_is r us n climb)) u (part_in u h) in omega (arith, e))
      ∙ pieces.1
      ∙ count_is_range (1 + length front) (length part)

  -- and where they are all that pass, no other passes
  module _ (test : Unknown → Bool) (passes : (u : Unknown) → Contains part u → test u ≡ true) (only : (u : Unknown) → Contains us u → test u ≡ true → Contains part u) where
    fails : (vs : List Unknown) (a m : ℕ) → map r vs ≡ count_from a m → ((u : Unknown) → Contains vs u → Contains us u) → ((a + m ≤ 1 + length front) ⊎ (1 + length front + length part ≤ a)) → (u : Unknown) → Contains vs u → test u ≡ false
    fails vs a m e in_us apart u h = elim (cases_Bool (test u)) [
      | inr off ↦ off
      | inl on ↦
          let here = from_ranks r vs a m e u h in
          let there = from_ranks r part (1 + length front) (length part) pieces.1 u (only u (in_us u h) on) in
          absurd (elim apart [ inl x ↦ omega (arith, here.1, there.0, x) | inr x ↦ omega (arith, here.0, there.1, x) ])
    ]

    pub front_fails : (u : Unknown) → Contains front u → test u ≡ false
    front_fails = fails front 1 (length front) pieces.0 (λ u h. subst (λ (vs : List Unknown). Contains vs u) (sym whole) (Contains-append_left (front ++ part) back u (Contains-append_left front part u h))) (inl (omega arith))

    pub back_fails : (u : Unknown) → Contains back u → test u ≡ false
    back_fails = fails back (1 + (length front + length part)) (length back) pieces.2 (λ u h. subst (λ (vs : List Unknown). Contains vs u) (sym whole) (Contains-append_right (front ++ part) back u h)) (inr (omega arith))

    pub part_filtered : filter test us ≡ part
    part_filtered =
        ap (filter test) whole
        ∙ filter-append test (front ++ part) back
        ∙ ap (λ vs. vs ++ filter test back) (filter-append test front part)
        ∙ ap (λ vs. (vs ++ filter test part) ++ filter test back) (filter_none test front front_fails)
        ∙ ap (λ vs. vs ++ filter test back) (filter_all test part passes)
        ∙ ap (λ vs. part ++ vs) (filter_none test back back_fails)
        ∙ append-nil part

-- Where a part that is numbered by the tables stands
module _ (r : Unknown → ℕ) (us front part back : List Unknown) (n b : ℕ) (whole : us ≡ (front ++ part) ++ back) (climb : map r us ≡ count_from 1 n) (here : map r part ≡ count_from (suc b) (length part)) where
  pub part_begins : 0 < length part → length front ≡ b
  part_begins some =
      let p = (pieces r us front part back n whole climb).1 in
      let first : (m k : ℕ) → 0 < k → get_or (count_from m k) 0 0 ≡ m = λ m k lt. at m k lt in
      let e = sym (first (1 + length front) (length part) some) ∙ ap (λ (ks : List ℕ). get_or ks 0 0) (sym p ∙ here) ∙ first (suc b) (length part) some in
      omega (arith, e)
    where
      at : (m k : ℕ) → 0 < k → get_or (count_from m k) 0 0 ≡ m
      at m zero lt = absurd (omega (arith, lt))
      at m (suc k) lt = refl

-- a range of numbers is that of the unknowns that pass, and they stand one after another
abbrev pub IsRange : (Unknown → Bool) → List Unknown → NumberRange → Type 0
IsRange test us x = (x ≡ range_where test us) × (take x.count (drop (x.first - 1) us) ≡ filter test us)

counted : (test : Unknown → Bool) (us vs : List Unknown) → filter test us ≡ vs → count_by test us ≡ length vs
counted test us vs e = sym (length-filter test us) ∙ ap (λ (ws : List Unknown). length ws) e

abbrev span : ℕ → ℕ → NumberRange
span a n = record { first = a; count = n }

pub none_pass : (test : Unknown → Bool) (us : List Unknown) (n : ℕ) → length us ≡ n → ((u : Unknown) → Contains us u → test u ≡ false) → IsRange test us (record { first = n + 1; count = 0 })
none_pass test us n long fails =
    let d : Unknown = Phi 0 in
    let at : position_or_len test us ≡ length us = position_or_len_is test us (length us) d (omega arith) (λ k lt. fails (get_or us k d) (Contains-get_or us k d lt)) (λ lt. absurd (omega (arith, lt))) in
    let no_one = filter_none test us fails in
    let first : n + 1 ≡ 1 + position_or_len test us = omega (arith, at, long) in
    (ap (λ a. span a 0) first ∙ ap (span (1 + position_or_len test us)) (sym (counted test us [] no_one)), sym no_one)

module _ (r : Unknown → ℕ) (us front part back : List Unknown) (n b m : ℕ) (whole : us ≡ (front ++ part) ++ back) (climb : map r us ≡ count_from 1 n) (here : map r part ≡ count_from (suc b) m)
    (test : Unknown → Bool) (passes : (u : Unknown) → Contains part u → test u ≡ true) (only : (u : Unknown) → Contains us u → test u ≡ true → Contains part u) where
  part_size : length part ≡ m
  part_size = sym (length-map part r) ∙ ap (λ (ks : List ℕ). length ks) here ∙ length-count_from (suc b) m

  pub part_range : 0 < m → IsRange test us (record { first = b + 1; count = m })
  part_range some =
      let d : Unknown = Phi 0 in
      let begins = part_begins r us front part back n b whole climb (here ∙ ap (count_from (suc b)) (sym part_size)) (omega (arith, some, part_size)) in
      let a = length front in
      let long = let x = ap (λ (vs : List Unknown). length vs) whole in let y = length-append (front ++ part) back in let z = length-append front part in x ∙ y ∙ ap (λ k. k + length back) z in
      let zero_off : a - a ≡ 0 = omega arith in
      let early : (j : ℕ) → j < a → test (get_or us j d) ≡ false = λ j lt.
      let same : get_or us j d ≡ get_or front j d =
      ap (λ (vs : List Unknown). get_or vs j d) whole
      ∙ get_or_append_left (front ++ part) back d j (let z = length-append front part in omega (arith, z, lt))
      ∙ get_or_append_left front part d j lt in
      ap test same ∙ front_fails r us front part back n whole climb test passes only (get_or front j d) (Contains-get_or front j d lt) in
      let now : test (get_or us a d) ≡ true =
      let same : get_or us a d ≡ get_or part 0 d =
      ap (λ (vs : List Unknown). get_or vs a d) whole
      ∙ get_or_append_left (front ++ part) back d a (let z = length-append front part in omega (arith, z, some, part_size))
      ∙ get_or-append_right front part a a d refl (omega arith)
      ∙ ap (λ k. get_or part k d) zero_off in
      ap test same ∙ passes (get_or part 0 d) (Contains-get_or part 0 d (omega (arith, some, part_size))) in
      let at : position_or_len test us ≡ a = position_or_len_is test us a d (omega (arith, long)) early (λ lt. now) in
      let all = part_filtered r us front part back n whole climb test passes only in
      let first : b + 1 ≡ 1 + position_or_len test us = omega (arith, at, begins) in
      let size : m ≡ count_by test us = sym part_size ∙ sym (counted test us part all) in
      let skip : b + 1 - 1 ≡ a = omega (arith, begins) in
      let cut : take (length part) (drop a us) ≡ part =
      ap (λ (vs : List Unknown). take (length part) (drop a vs)) (whole ∙ append_assoc front part back)
      ∙ ap (take (length part)) (drop-append_seam front (part ++ back))
      ∙ take-append_seam part back in (
        ap (λ k. span k m) first ∙ ap (span (1 + position_or_len test us)) size,
        ap (λ k. take m (drop k us)) skip ∙ ap (λ k. take k (drop a us)) (sym part_size) ∙ cut ∙ sym all,
      )

  pub part_within : 0 < m → b + m ≤ n
  part_within some =
      let begins = part_begins r us front part back n b whole climb (here ∙ ap (count_from (suc b)) (sym part_size)) (omega (arith, some, part_size)) in
      let c = count_is r us n climb in
      let x = ap (λ (vs : List Unknown). length vs) whole in
      let y = length-append (front ++ part) back in
      let z = length-append front part in
      omega (arith, begins, c, x, y, z, part_size)

  pub part_empty : m ≡ 0 → IsRange test us (record { first = n + 1; count = 0 })
  part_empty empty = none_pass test us n (sym (count_is r us n climb)) (λ u h. elim (cases_Bool (test u)) [
    | inr off ↦ off
    | inl on ↦ let x = only u h on in absurd (omega (arith, x.1, part_size, empty))
  ])
