-- Marks that spread along steps.
use Rattle.std.proofs.Common.{◌≡◌, ℕ, zero, suc, ◌+◌, ◌<◌, ◌≤◌, ◌⊎◌, inl, inr, Bool, true, false, cond, List, [], ◌∷◌, ◌++◌, length, get_or, set, take, eqb, refl, sym, ap, subst, ◌∙◌, arith}
use Rattle.std.proofs.lemmas.Bool.{cases_lt, cases_eq, cases_Bool, eqb-true, eqb-false, eq-eqb, ne_eqb}
use Rattle.std.proofs.lemmas.List.{append-nil, append_assoc, get_or_past, length-set, length_push, get_or-set_same, get_or-set_other, get_or_append_left}
use Rattle.std.proofs.lemmas.List.Elements.{Contains-push, Contains-push_cases, Contains-append_left, Contains-get_or}
use Rattle.std.specs.List.{Contains}
use Rattle.recursion_groups.proofs.FoundLemmas.{contains_none}
use Rattle.recursion_groups.proofs.CallLemmas.{take_old, take_new, take_cases}
use Rattle.annotate.specs.Reach.{Steps, Reaches, AreWithin}
use Rattle.annotate.specs.Rings.{mark_at}
use Rattle.annotate.specs.Paint.{IsMarked, unmarked, marks_with, numbers_with, Marks, AreClosed, Paints}
use Rattle.annotate.proofs.ReachRows.{any_default, reaches_itself, reaches_more}

pub marked_within : (ms : List ℕ) (q : ℕ) → IsMarked ms q → q < length ms
marked_within ms q h = elim (cases_lt q (length ms)) [ inl lt ↦ lt | inr past ↦ absurd (h (get_or_past ms q 0 past)) ]

pub marked_kept : (ms ms' : List ℕ) (q : ℕ) → IsMarked ms q → mark_at ms' q ≡ mark_at ms q → IsMarked ms' q
marked_kept ms ms' q h e z = h (sym e ∙ z)

unmarked_less : (ms : List ℕ) (n m : ℕ) → n < length ms → get_or ms n 0 ≡ 0 → (m ≡ 0 → ⊥) → unmarked (set ms n m) + 1 ≡ unmarked ms
unmarked_less [] n m lt e pos = absurd (omega (arith, lt))
unmarked_less (x ∷ ms) zero m lt e pos =
    let one : Bool → ℕ = λ b. cond b 1 0 in
    let new : one (eqb m 0) ≡ one false = ap one (ne_eqb m 0 pos) in
    let old : one (eqb x 0) ≡ one true = ap one (eq-eqb x 0 e) in
    omega (arith, new, old)
unmarked_less (x ∷ ms) (suc n) m lt e pos = let h = unmarked_less ms n m (omega (arith, lt)) e pos in omega (arith, h)

-- One number

module _ (ms rs : List ℕ) (n m : ℕ) (ms' rs' : List ℕ) (small : n < length ms) (some : m ≡ 0 → ⊥) (made : ms' ≡ marks_with ms n m) (grown : rs' ≡ numbers_with ms rs n) where
  module _ (none : mark_at ms n ≡ 0) where
    is : ms' ≡ set ms n m
    is = made ∙ ap (λ b. cond b (set ms n m) ms) (eq-eqb (mark_at ms n) 0 none)

    rs_is : rs' ≡ rs ++ n ∷ []
    rs_is = grown ∙ ap (λ b. cond b (rs ++ n ∷ []) rs) (eq-eqb (mark_at ms n) 0 none)

    same : mark_at ms' n ≡ m
    same = ap (λ (k : List ℕ). mark_at k n) is ∙ get_or-set_same ms n m 0 small

    other : (q : ℕ) → (q ≡ n → ⊥) → mark_at ms' q ≡ mark_at ms q
    other q d = ap (λ (k : List ℕ). mark_at k q) is ∙ get_or-set_other ms n q m 0 d

    fresh_one : (q : ℕ) → mark_at ms q ≡ 0 → IsMarked ms' q → (mark_at ms' q ≡ m) × Contains rs' q
    fresh_one q z h = elim (cases_eq q n) [
      | inl e ↦ subst (λ k. (mark_at ms' k ≡ m) × Contains rs' k) (sym e) (same, subst (λ k. Contains k n) (sym rs_is) (Contains-push rs n))
      | inr d ↦ absurd (h (other q d ∙ z))
    ]

    marks_new : Marks ms rs m (λ q. q ≡ n) ms' rs'
    marks_new = record {
      count = ap length is ∙ length-set ms n m;
      kept = λ q h. other q (λ e. h (ap (mark_at ms) e ∙ none));
      fresh = fresh_one;
      more = n ∷ [];
      front = rs_is;
      only = λ q c. elim (Contains-push_cases rs n q (subst (λ k. Contains k q) rs_is c)) [ inl k ↦ inl k | inr k ↦ inr (sym k) ];
      all = λ q e z. some (sym same ∙ ap (mark_at ms') (sym e) ∙ z);
      sum =
          let less : unmarked ms' + 1 ≡ unmarked ms = ap (λ k. unmarked k + 1) is ∙ unmarked_less ms n m small none some in
          let longer : length rs' ≡ length rs + 1 = ap length rs_is ∙ length_push rs n in
          omega (arith, less, longer);
    }

  module _ (there : IsMarked ms n) where
    stays : ms' ≡ ms
    stays = made ∙ ap (λ b. cond b (set ms n m) ms) (ne_eqb (mark_at ms n) 0 there)

    rs_stays : rs' ≡ rs
    rs_stays = grown ∙ ap (λ b. cond b (rs ++ n ∷ []) rs) (ne_eqb (mark_at ms n) 0 there)

    marks_old : Marks ms rs m (λ q. q ≡ n) ms' rs'
    marks_old = record {
      count = ap length stays;
      kept = λ q h. ap (λ (k : List ℕ). mark_at k q) stays;
      fresh = λ q z h. absurd (h (ap (λ (k : List ℕ). mark_at k q) stays ∙ z));
      more = [];
      front = rs_stays ∙ sym (append-nil rs);
      only = λ q c. inl (subst (λ k. Contains k q) rs_stays c);
      all = λ q e z. there (ap (λ (k : List ℕ). mark_at k n) (sym stays) ∙ ap (mark_at ms') (sym e) ∙ z);
      sum = let a = ap unmarked stays in let b : length rs' ≡ length rs = ap length rs_stays in omega (arith, a, b);
    }

  pub marks_one : Marks ms rs m (λ q. q ≡ n) ms' rs'
  marks_one = elim (cases_eq (mark_at ms n) 0) [ inl e ↦ marks_new e | inr d ↦ marks_old d ]

-- More of them

pub marks_none : (ms rs : List ℕ) (m : ℕ) (xs : List ℕ) → Marks ms rs m (Contains (take 0 xs)) ms rs
marks_none ms rs m xs = record {
  count = refl;
  kept = λ q h. refl;
  fresh = λ q z h. absurd (h z);
  more = [];
  front = sym (append-nil rs);
  only = λ q c. inl c;
  all = λ q c z. contains_none q c;
  sum = refl;
}

module _ (a ra b rb c rc : List ℕ) (m : ℕ) (P Q R : ℕ → Type 0) (g : Marks a ra m P b rb) (h : Marks b rb m Q c rc)
    (split : (q : ℕ) → R q → P q ⊎ Q q) (left : (q : ℕ) → P q → R q) (right : (q : ℕ) → Q q → R q) where
  on : (q : ℕ) → Contains rb q → Contains rc q
  on q k = subst (λ (xs : List ℕ). Contains xs q) (sym h.front) (Contains-append_left rb h.more q k)

  fresh_both : (q : ℕ) → mark_at a q ≡ 0 → IsMarked c q → (mark_at c q ≡ m) × Contains rc q
  fresh_both q z there = elim (cases_eq (mark_at b q) 0) [
    | inl e ↦ h.fresh q e there
    | inr d ↦ let k = g.fresh q z d in (h.kept q d ∙ k.0, on q k.1)
  ]

  pub marks_then : Marks a ra m R c rc
  marks_then = record {
    count = h.count ∙ g.count;
    kept = λ q k. h.kept q (marked_kept a b q k (g.kept q k)) ∙ g.kept q k;
    fresh = fresh_both;
    more = g.more ++ h.more;
    front = h.front ∙ ap (λ xs. xs ++ h.more) g.front ∙ append_assoc ra g.more h.more;
    only = λ q k. elim (h.only q k) [
      | inl d ↦ elim (g.only q d) [ inl e ↦ inl e | inr e ↦ inr (left q e) ]
      | inr d ↦ inr (right q d)
    ];
    all = λ q k. elim (split q k) [ inl d ↦ marked_kept b c q (g.all q d) (h.kept q (g.all q d)) | inr d ↦ h.all q d ];
    sum = h.sum ∙ g.sum;
  }

pub marks_on : (a ra b rb c rc : List ℕ) (m : ℕ) (xs : List ℕ) (i x : ℕ) → i < length xs → x ≡ get_or xs i x → Marks a ra m (Contains (take i xs)) b rb
    → Marks b rb m (λ q. q ≡ x) c rc → Marks a ra m (Contains (take (i + 1) xs)) c rc
marks_on a ra b rb c rc m xs i x lt is g h =
    marks_then a ra b rb c rc m (Contains (take i xs)) (λ q. q ≡ x) (Contains (take (i + 1) xs)) g h
    (λ q k. elim (take_cases xs i x lt is q k) [ inl l ↦ inl l | inr l ↦ inr (sym l) ])
    (take_old xs i x lt is)
    (λ q k. subst (λ r. Contains (take (i + 1) xs) r) (sym k) (take_new xs i x lt is))

-- From a root on

pub record IsPainting (lists : List (List ℕ)) (old : List ℕ) (root : ℕ) (new found : List ℕ) (done : ℕ) : Type 0 where
  pub count : length new ≡ length old
  pub kept : (q : ℕ) → IsMarked old q → mark_at new q ≡ mark_at old q
  pub fresh : (q : ℕ) → mark_at old q ≡ 0 → IsMarked new q → (mark_at new q ≡ suc root) × Contains found q
  pub reached : (q : ℕ) → Contains found q → Reaches lists root q × IsMarked new q
  pub closed : (k p : ℕ) → k < done → Steps lists (get_or found k 0) p → IsMarked new p
  pub within : done ≤ length found
  pub start : IsMarked new root

pub painting_begins : (lists : List (List ℕ)) (old : List ℕ) (root : ℕ) (new found : List ℕ) → Marks old [] (root + 1) (λ q. q ≡ root) new found
    → IsPainting lists old root new found 0
painting_begins lists old root new found h = record {
  count = h.count;
  kept = h.kept;
  fresh = λ q z k. let f = h.fresh q z k in (f.0 ∙ (omega arith), f.1);
  reached = λ q c. elim (h.only q c) [
    | inl k ↦ absurd (contains_none q k)
    | inr k ↦ subst (λ r. Reaches lists root r × IsMarked new r) (sym k) (reaches_itself lists root, h.all root refl)
  ];
  closed = λ k p lt c. absurd (omega (arith, lt));
  within = omega arith;
  start = h.all root refl;
}

module _ (lists : List (List ℕ)) (old : List ℕ) (root : ℕ) (mid found : List ℕ) (done : ℕ) (w : IsPainting lists old root mid found done) (lt : done < length found)
    (numbers : List ℕ) (is : numbers ≡ get_or lists (get_or found done 0) []) (new more : List ℕ) (h : Marks mid found (root + 1) (Contains numbers) new more) where
  here : Contains found (get_or found done 0)
  here = Contains-get_or found done 0 lt

  step : (q : ℕ) → Contains numbers q → Steps lists (get_or found done 0) q
  step q c = subst (λ (xs : List ℕ). Contains xs q) is c

  same_place : (k : ℕ) → k < length found → get_or more k 0 ≡ get_or found k 0
  same_place k k_lt = ap (λ (xs : List ℕ). get_or xs k 0) h.front ∙ get_or_append_left found h.more 0 k k_lt

  longer : length found ≤ length more
  longer = omega (arith, longer_front found more h.more h.front)
    where
      longer_front : (xs ys zs : List ℕ) → ys ≡ xs ++ zs → length xs ≤ length ys
      longer_front xs ys zs e = subst (λ (k : List ℕ). length xs ≤ length k) (sym e) (front xs zs)
        where
          front : (xs zs : List ℕ) → length xs ≤ length (xs ++ zs)
          front [] zs = omega arith
          front (x ∷ xs) zs = omega (arith, front xs zs)

  closed_more : (k p : ℕ) → k < done + 1 → Steps lists (get_or more k 0) p → IsMarked new p
  closed_more k p k_lt c =
      let old_step : Steps lists (get_or found k 0) p = subst (λ r. Steps lists r p) (same_place k (omega (arith, k_lt, lt))) c in
      elim (cases_lt k done) [
        | inl below ↦ let m = w.closed k p below old_step in marked_kept mid new p m (h.kept p m)
        | inr above ↦
            let e : k ≡ done = omega (arith, k_lt, above) in
            h.all p (subst (λ (xs : List ℕ). Contains xs p) (sym is) (subst (λ j. Steps lists (get_or found j 0) p) e old_step))
      ]

  pub painting_on : IsPainting lists old root new more (done + 1)
  painting_on = record {
    count = h.count ∙ w.count;
    kept = λ q k. h.kept q (marked_kept old mid q k (w.kept q k)) ∙ w.kept q k;
    fresh = λ q z k. elim (cases_eq (mark_at mid q) 0) [
      | inl e ↦ let f = h.fresh q e k in (f.0 ∙ (omega arith), f.1)
      | inr d ↦ let f = w.fresh q z d in (h.kept q d ∙ f.0, subst (λ (xs : List ℕ). Contains xs q) (sym h.front) (Contains-append_left found h.more q f.1))
    ];
    reached = λ q c. elim (h.only q c) [
      | inl k ↦ let r = w.reached q k in (r.0, marked_kept mid new q r.1 (h.kept q r.1))
      | inr k ↦ (reaches_more lists root (get_or found done 0) q (w.reached (get_or found done 0) here).0 (step q k), h.all q k)
    ];
    closed = closed_more;
    within = omega (arith, longer, lt);
    start = marked_kept mid new root w.start (h.kept root w.start);
  }

pub painting_within : (lists : List (List ℕ)) (old : List ℕ) (root : ℕ) (new found : List ℕ) (done : ℕ) → IsPainting lists old root new found done → done < length found
    → get_or found done 0 < length old
painting_within lists old root new found done w lt =
    let h = marked_within new (get_or found done 0) (w.reached (get_or found done 0) (Contains-get_or found done 0 lt)).1 in omega (arith, h, w.count)

pub painting_ends : (lists : List (List ℕ)) (old : List ℕ) (root : ℕ) (new found : List ℕ) (done : ℕ) → IsPainting lists old root new found done → length found ≤ done
    → AreClosed lists old → Paints lists old root new
painting_ends lists old root new found done w end before = record {
  count = w.count;
  kept = w.kept;
  fresh = λ q z k. let f = w.fresh q z k in (f.0, (w.reached q f.1).0);
  closed = λ q p k c. elim (cases_eq (mark_at old q) 0) [
    | inl z ↦ listed_closed q p (w.fresh q z k).1 c
    | inr d ↦ let m = before q p d c in marked_kept old new p m (w.kept p m)
  ];
  start = w.start;
}
  where
    listed_closed : (q p : ℕ) → Contains found q → Steps lists q p → IsMarked new p
    listed_closed q p h c = w.closed h.0 p (omega (arith, h.1, end)) (subst (λ r. Steps lists r p) (sym (any_default found h.0 0 q h.1 ∙ h.2)) c)
