-- A walk in depth: entering, taking a step, leaving.
use Rattle.std.proofs.Common.{◌≡◌, ℕ, zero, suc, ◌+◌, ◌*◌, ◌-◌, ◌<◌, ◌≤◌, ◌⊎◌, inl, inr, Bool, true, false, cond, Option, Some, None, List, [], ◌∷◌, ◌++◌, length, take, reverse, get_or, set, replicate, refl, sym, ap, subst, ◌∙◌, arith}
use Rattle.std.proofs.lemmas.Bool.{cases_lt, cases_eq, cases_Bool, false≢true}
use Rattle.std.proofs.lemmas.List.{get_or_past, length-set, get_or-set_same, get_or-set_other, get_or-replicate, length-replicate, reverse-append}
use Rattle.std.proofs.lemmas.List.Elements.{Contains-get_or}
use Rattle.std.specs.List.{Contains}
use Rattle.std.specs.Prelude.{slice_get}
use Rattle.recursion_groups.specs.Found.{has}
use Rattle.recursion_groups.proofs.FoundLemmas.{contains_head, contains_tail, contains_cases, contains_none, contains_from_has, not_has}
use Rattle.annotate.specs.Reach.{Steps, StepsAlong, Reaches, AreMutual, AreWithin}
use Rattle.annotate.specs.Walks.{Walked, IsSeen, list_at, taken_at, at_first, entered, with_taken, left, IsLast, IsBound, IsOrder, IsWholeOrder, IsPath, IsWalk, steps_left, work, GoesOn, Advances}
use Rattle.annotate.proofs.ReachRows.{any_default, reaches_itself, reaches_more, step_reaches, reaches_on, mutual_itself, mutual_on}

-- Seen numbers

seen_within : (xs : List Bool) (q : ℕ) → get_or xs q false ≡ true → q < length xs
seen_within xs q h = elim (cases_lt q (length xs)) [ inl lt ↦ lt | inr past ↦ absurd (false≢true (sym (get_or_past xs q false past) ∙ h)) ]

module _ (s : Walked) (q : ℕ) (lt : q < length s.seen) where
  pub seen_itself : IsSeen (entered s q) q
  seen_itself = get_or-set_same s.seen q true false lt

  pub seen_more : (x : ℕ) → IsSeen s x → IsSeen (entered s q) x
  seen_more x h = elim (cases_eq x q) [
    | inl e ↦ subst (λ k. IsSeen (entered s q) k) (sym e) seen_itself
    | inr n ↦ get_or-set_other s.seen q x true false n ∙ h
  ]

  pub seen_cases : (x : ℕ) → IsSeen (entered s q) x → (q ≡ x) ⊎ IsSeen s x
  seen_cases x h = elim (cases_eq x q) [ inl e ↦ inl (sym e) | inr n ↦ inr (sym (get_or-set_other s.seen q x true false n) ∙ h) ]

-- Orders

bound_more : (g : List (List ℕ)) (later more : List ℕ) (u r : ℕ) → ((x : ℕ) → Contains later x → Contains more x) → IsBound g later u r → IsBound g more u r
bound_more g later more u r sub (inl h) = inl h
bound_more g later more u r sub (inr (w, there, m)) = inr (w, sub w there, m)

order_more : (g : List (List ℕ)) (P Q : ℕ → Type 0) (later more rs : List ℕ) → ((x : ℕ) → Contains later x → Contains more x) → ((u : ℕ) → Q u → P u ⊎ Contains more u)
    → IsOrder g P later rs → IsOrder g Q more rs
order_more g P Q later more [] sub cases h = tt
order_more g P Q later more (r ∷ rs) sub cases h = (first, order_more g P Q (r ∷ later) (r ∷ more) rs under (λ u is. elim (cases u is) [ inl k ↦ inl k | inr k ↦ inr (contains_tail r u more k) ]) h.1)
  where
    under : (x : ℕ) → Contains (r ∷ later) x → Contains (r ∷ more) x
    under x c = elim (contains_cases r x later c) [ inl e ↦ contains_head r x more e | inr k ↦ contains_tail r x more (sub x k) ]

    first : (u : ℕ) → Q u → Reaches g u r → IsBound g more u r
    first u is to = elim (cases u is) [
      | inl k ↦ bound_more g later more u r sub (h.0 u k to)
      | inr k ↦ inr (u, k, mutual_itself g u)
    ]

-- The beginning

pub begins : (g : List (List ℕ)) (n : ℕ) → n ≡ length g → IsWalk g (at_first n)
begins g n count = record {
  seen_count = length-replicate {A = Bool} n false ∙ count;
  taken_count = length-replicate {A = ℕ} n 0 ∙ count;
  path_seen = λ q c. absurd (contains_none q c);
  done_seen = λ q c. absurd (contains_none q c);
  seen_is = λ q h. absurd (none q h);
  path = tt;
  apart = λ q c d. contains_none q c;
  bounded = λ p. omega (arith, zeros p);
  followed = λ p k lt. absurd (omega (arith, zeros p, lt));
  closed = λ p q c h. absurd (contains_none p c);
  guarded = λ u r c n h. absurd (contains_none u c);
  order = tt;
}
  where
    none : (q : ℕ) → IsSeen (at_first n) q → ⊥
    none q h =
        let lt : q < n = (let l = seen_within (replicate n false) q h in omega (arith, l, length-replicate {A = Bool} n false)) in
        false≢true (sym (get_or-replicate n q false false lt) ∙ h)

    zeros : (p : ℕ) → taken_at (at_first n) p ≡ 0
    zeros p = elim (cases_lt p n) [
      | inl lt ↦ get_or-replicate n p 0 0 lt
      | inr past ↦ get_or_past (replicate n 0) p 0 (omega (arith, past, length-replicate {A = ℕ} n 0))
    ]

-- Entering

module _ (g : List (List ℕ)) (s : Walked) (w : IsWalk g s) (q : ℕ) (small : q < length g) (new : IsSeen s q → ⊥)
    (below : (p : ℕ) → Contains s.path p → Reaches g p q) where
  lt : q < length s.seen
  lt = omega (arith, small, w.seen_count)

  more : (x : ℕ) → IsSeen s x → IsSeen (entered s q) x
  more = seen_more s q lt

  order_on : IsOrder g (IsSeen (entered s q)) (q ∷ s.path) s.done
  order_on =
      order_more g (IsSeen s) (IsSeen (entered s q)) s.path (q ∷ s.path) s.done (λ x c. contains_tail q x s.path c)
      (λ u is. elim (seen_cases s q lt u is) [ inl e ↦ inr (contains_head q u s.path e) | inr k ↦ inl k ]) w.order

  pub enters : IsWalk g (entered s q)
  enters = record {
    seen_count = length-set s.seen q true ∙ w.seen_count;
    taken_count = w.taken_count;
    path_seen = λ x c. elim (contains_cases q x s.path c) [
      | inl e ↦ subst (λ k. IsSeen (entered s q) k) e (seen_itself s q lt)
      | inr k ↦ more x (w.path_seen x k)
    ];
    done_seen = λ x c. more x (w.done_seen x c);
    seen_is = λ x h. elim (seen_cases s q lt x h) [
      | inl e ↦ inl (contains_head q x s.path e)
      | inr k ↦ elim (w.seen_is x k) [ inl c ↦ inl (contains_tail q x s.path c) | inr c ↦ inr c ]
    ];
    path = ((λ p c. (below p c, (λ e. new (subst (λ k. IsSeen s k) e (w.path_seen p c))))), w.path);
    apart = λ x c d. elim (contains_cases q x s.path c) [
      | inl e ↦ new (subst (λ k. IsSeen s k) (sym e) (w.done_seen x d))
      | inr k ↦ w.apart x k d
    ];
    bounded = w.bounded;
    followed = λ p k l. more (get_or (list_at g p) k 0) (w.followed p k l);
    closed = λ p x c h. more x (w.closed p x c h);
    guarded = λ u r c n h. let k = w.guarded u r c n h in (k.0, contains_tail q k.0 s.path k.1, k.2, k.3);
    order = order_on;
  }

-- Taking a step

module _ (g : List (List ℕ)) (s : Walked) (w : IsWalk g s) (p : ℕ) (small : p < length g) (next : taken_at s p < length (list_at g p))
    (there : IsSeen s (get_or (list_at g p) (taken_at s p) 0)) where
  fits : p < length s.taken
  fits = omega (arith, small, w.taken_count)

  here : taken_at (with_taken s p) p ≡ taken_at s p + 1
  here = get_or-set_same s.taken p (taken_at s p + 1) 0 fits

  other : (x : ℕ) → (x ≡ p → ⊥) → taken_at (with_taken s p) x ≡ taken_at s x
  other x n = get_or-set_other s.taken p x (taken_at s p + 1) 0 n

  at_most : (x : ℕ) → taken_at (with_taken s p) x ≤ length (list_at g x)
  at_most x = elim (cases_eq x p) [
    | inl e ↦ subst (λ k. taken_at (with_taken s p) k ≤ length (list_at g k)) (sym e) (omega (arith, here, next))
    | inr n ↦ omega (arith, other x n, w.bounded x)
  ]

  follows_here : (k : ℕ) → k < taken_at (with_taken s p) p → IsSeen s (get_or (list_at g p) k 0)
  follows_here k l = elim (cases_lt k (taken_at s p)) [
    | inl below ↦ w.followed p k below
    | inr above ↦ let e : taken_at s p ≡ k = omega (arith, here, l, above) in subst (λ j. IsSeen s (get_or (list_at g p) j 0)) e there
  ]

  follows : (x k : ℕ) → k < taken_at (with_taken s p) x → IsSeen s (get_or (list_at g x) k 0)
  follows x k l = elim (cases_eq x p) [
    | inl e ↦ subst (λ y. IsSeen s (get_or (list_at g y) k 0)) (sym e) (follows_here k (subst (λ y. k < taken_at (with_taken s p) y) e l))
    | inr n ↦ w.followed x k (omega (arith, l, other x n))
  ]

  pub takes : IsWalk g (with_taken s p)
  takes = record {
    seen_count = w.seen_count;
    taken_count = length-set s.taken p (taken_at s p + 1) ∙ w.taken_count;
    path_seen = w.path_seen;
    done_seen = w.done_seen;
    seen_is = w.seen_is;
    path = w.path;
    apart = w.apart;
    bounded = at_most;
    followed = follows;
    closed = w.closed;
    guarded = w.guarded;
    order = w.order;
  }

-- Leaving

module _ (g : List (List ℕ)) (s : Walked) (w : IsWalk g s) (v : ℕ) (vs : List ℕ) (is : s.path ≡ v ∷ vs) (end : length (list_at g v) ≤ taken_at s v) where
  on_path : (x : ℕ) → Contains s.path x → (v ≡ x) ⊎ Contains vs x
  on_path x c = contains_cases v x vs (subst (λ k. Contains k x) is c)

  first : Contains s.path v
  first = subst (λ k. Contains k v) (sym is) (contains_head v v vs refl)

  rest : (x : ℕ) → Contains vs x → Contains s.path x
  rest x c = subst (λ k. Contains k x) (sym is) (contains_tail v x vs c)

  path_is : IsPath g (v ∷ vs)
  path_is = subst (IsPath g) is w.path

  not_done : Contains s.done v → ⊥
  not_done = w.apart v first

  closed_on : (p q : ℕ) → Contains (v ∷ s.done) p → Steps g p q → IsSeen s q
  closed_on p q c h = elim (contains_cases v p s.done c) [
    | inl e ↦
        let h' : Steps g v q = subst (λ k. Steps g k q) (sym e) h in
        subst (λ k. IsSeen s k) (at h') (w.followed v h'.0 (omega (arith, h'.1, end)))
    | inr k ↦ w.closed p q k h
  ]
    where
      at : (h' : Steps g v q) → get_or (list_at g v) h'.0 0 ≡ q
      at h' = any_default (list_at g v) h'.0 0 q h'.1 ∙ h'.2

  -- a number of the path below that is in a ring with v and reaches r
  pub record Below (r : ℕ) : Type 0 where
    pub by : ℕ
    pub there : Contains vs by
    pub with : AreMutual g by v
    pub to : Reaches g by r

  out : (x : ℕ) (rs : List ℕ) (r : ℕ) → Contains (v ∷ s.done) x → Reaches g v x → StepsAlong g x rs r → (Contains (v ∷ s.done) r → ⊥) → Below r
  out x [] r c h along n = absurd (n (subst (λ k. Contains (v ∷ s.done) k) along c))
  out x (y ∷ rs) r c h along n = elim (cases_Bool (has (v ∷ s.done) y)) [
    | inl is_in ↦ out y rs r (contains_from_has (v ∷ s.done) y is_in) (reaches_more g v x y h along.0) along.1 n
    | inr is_out ↦ elim (w.seen_is y (closed_on x y c along.0)) [
      | inl on ↦ elim (on_path y on) [
        | inl e ↦ absurd (not_has (v ∷ s.done) y is_out (contains_head v y s.done e))
        | inr k ↦ record { by = y; there = k; with = ((path_is.0 y k).0, reaches_more g v x y h along.0); to = (rs, along.1) }
      ]
      | inr d ↦ absurd (not_has (v ∷ s.done) y is_out (contains_tail v y s.done d))
    ]
  ]

  guarded_on : (u r : ℕ) → Contains (v ∷ s.done) u → (Contains (v ∷ s.done) r → ⊥) → Reaches g u r → (p : ℕ) × Contains vs p × AreMutual g p u × Reaches g p r
  guarded_on u r c n h = elim (contains_cases v u s.done c) [
    | inl e ↦ let b = around r n (subst (λ k. Reaches g k r) (sym e) h) in (b.by, b.there, subst (λ k. AreMutual g b.by k) e b.with, b.to)
    | inr k ↦
        let old = w.guarded u r k (λ d. n (contains_tail v r s.done d)) h in
        elim (on_path old.0 old.1) [
          | inl e ↦
              let b = around r n (subst (λ y. Reaches g y r) (sym e) old.3) in
              (b.by, b.there, mutual_on g b.by v u b.with (subst (λ y. AreMutual g y u) (sym e) old.2), b.to)
          | inr below ↦ (old.0, below, old.2, old.3)
        ]
  ]
    where
      around : (r : ℕ) → (Contains (v ∷ s.done) r → ⊥) → Reaches g v r → Below r
      around r n h = out v h.0 r (contains_head v v s.done refl) (reaches_itself g v) h.1 n

  bound : (u : ℕ) → IsSeen s u → Reaches g u v → IsBound g vs u v
  bound u h to = elim (w.seen_is u h) [
    | inl on ↦ elim (on_path u on) [
      | inl e ↦ inl (subst (λ k. Reaches g v k) e (reaches_itself g v))
      | inr k ↦ inr (u, k, mutual_itself g u)
    ]
    | inr d ↦
        let old = w.guarded u v d not_done to in
        elim (on_path old.0 old.1) [
          | inl e ↦ inl (subst (λ k. Reaches g k u) (sym e) old.2.0)
          | inr k ↦ inr (old.0, k, old.2)
        ]
  ]

  pub leaves : IsWalk g (left s v vs)
  leaves = record {
    seen_count = w.seen_count;
    taken_count = w.taken_count;
    path_seen = λ q c. w.path_seen q (rest q c);
    done_seen = λ q c. elim (contains_cases v q s.done c) [ inl e ↦ subst (λ k. IsSeen s k) e (w.path_seen v first) | inr k ↦ w.done_seen q k ];
    seen_is = λ q h. elim (w.seen_is q h) [
      | inl on ↦ elim (on_path q on) [ inl e ↦ inr (contains_head v q s.done e) | inr k ↦ inl k ]
      | inr d ↦ inr (contains_tail v q s.done d)
    ];
    path = path_is.1;
    apart = λ q c d. elim (contains_cases v q s.done d) [ inl e ↦ (path_is.0 q c).1 (sym e) | inr k ↦ w.apart q (rest q c) k ];
    bounded = w.bounded;
    followed = w.followed;
    closed = closed_on;
    guarded = guarded_on;
    order = (bound, subst (λ k. IsOrder g (IsSeen s) k s.done) is w.order);
  }

-- The end

pub ends : (g : List (List ℕ)) (s : Walked) → IsWalk g s → s.path ≡ [] → ((q : ℕ) → q < length g → IsSeen s q) → IsWholeOrder g s.done
ends g s w none all = record {
  ordered =
      order_more g (IsSeen s) (λ u. u < length g) s.path [] s.done (λ x c. subst (λ k. Contains k x) none c) (λ u lt. inl (all u lt)) w.order;
  all = λ q lt. elim (w.seen_is q (all q lt)) [ inl c ↦ absurd (contains_none q (subst (λ k. Contains k q) none c)) | inr d ↦ d ];
  within = λ q c. let lt = seen_within s.seen q (w.done_seen q c) in omega (arith, lt, w.seen_count);
}

-- What is left to do

steps_less : (ls : List (List ℕ)) (ts : List ℕ) (p : ℕ) → p < length ls → p < length ts → get_or ts p 0 < length (get_or ls p [])
    → steps_left ls (set ts p (get_or ts p 0 + 1)) + 1 ≡ steps_left ls ts
steps_less [] ts p lt lt' next = absurd (omega (arith, lt))
steps_less (l ∷ ls) [] p lt lt' next = absurd (omega (arith, lt'))
steps_less (l ∷ ls) (t ∷ ts) zero lt lt' next = omega (arith, next)
steps_less (l ∷ ls) (t ∷ ts) (suc p) lt lt' next = let e = steps_less ls ts p (omega (arith, lt)) (omega (arith, lt')) next in omega (arith, e)

pub take_less : (g : List (List ℕ)) (s : Walked) (p : ℕ) → p < length g → p < length s.taken → taken_at s p < length (list_at g p)
    → work g (with_taken s p) + 2 ≡ work g s
take_less g s p lt lt' next = let e = steps_less g s.taken p lt lt' next in omega (arith, e)

-- The one that was entered last

got : (xs : List ℕ) (k v : ℕ) → slice_get xs k ≡ Some v → (k < length xs) × (get_or xs k 0 ≡ v)
got [] k v e = absurd (let d : None ≡ Some v = e in cc)
got (x ∷ xs) zero v e = let d : Some x ≡ Some v = e in (omega arith, cc)
got (x ∷ xs) (suc k) v e = let h = got xs k v e in (omega (arith, h.0), h.1)

got_none : (xs : List ℕ) (k : ℕ) → slice_get xs k ≡ None → length xs ≤ k
got_none [] k e = omega arith
got_none (x ∷ xs) zero e = absurd (let d : Some x ≡ None = e in cc)
got_none (x ∷ xs) (suc k) e = omega (arith, got_none xs k e)

split_last : (xs : List ℕ) (n p : ℕ) → length xs ≡ suc n → slice_get xs n ≡ Some p → xs ≡ take n xs ++ p ∷ []
split_last [] n p len e = absurd (omega (arith, len))
split_last (x ∷ []) zero p len e = let d : Some x ≡ Some p = e in let same : x ≡ p = cc in ap (λ k. k ∷ []) same
split_last (x ∷ []) (suc n) p len e = absurd (omega (arith, len))
split_last (x ∷ y ∷ xs) zero p len e = absurd (omega (arith, len))
split_last (x ∷ y ∷ xs) (suc n) p len e = ap (λ k. x ∷ k) (split_last (y ∷ xs) n p (omega (arith, len)) e)

pub last_first : (xs : List ℕ) (p : ℕ) → slice_get xs (length xs - 1) ≡ Some p → (rest : List ℕ) × (reverse xs ≡ p ∷ rest)
last_first xs p e =
    let lt = (got xs (length xs - 1) p e).0 in (
      reverse (take (length xs - 1) xs),
      ap reverse (split_last xs (length xs - 1) p (omega (arith, lt)) e) ∙ reverse-append (take (length xs - 1) xs) (p ∷ []),
    )

-- One step of a walk

pub same_taken : (s t : Walked) (q p : ℕ) → t ≡ cond (get_or s.seen q false) s (entered s q) → taken_at t p ≡ taken_at s p
same_taken s t q p made = split (get_or s.seen q false) made
  where
    split : (b : Bool) → t ≡ cond b s (entered s q) → taken_at t p ≡ taken_at s p
    split true e = ap (λ (k : Walked). taken_at k p) e
    split false e = ap (λ (k : Walked). taken_at k p) e

pub goes_on : (g : List (List ℕ)) (r s t : Walked) → GoesOn g r s → GoesOn g s t → GoesOn g r t
goes_on g r s t h k = record { walk = k.walk; seen = λ q is. k.seen q (h.seen q is) }

module _ (g : List (List ℕ)) (s : Walked) (w : IsWalk g s) (from : ℕ) (last : IsLast s from) where
  on_top : Contains s.path from
  on_top = subst (λ k. Contains k from) (sym last.1) (contains_head from from last.0 refl)

  pub last_within : from < length g
  last_within = let lt = seen_within s.seen from (w.path_seen from on_top) in omega (arith, lt, w.seen_count)

  module _ (within : AreWithin g) (to : ℕ) (is : slice_get (list_at g from) (taken_at s from) ≡ Some to) where
    read : (taken_at s from < length (list_at g from)) × (get_or (list_at g from) (taken_at s from) 0 ≡ to)
    read = got (list_at g from) (taken_at s from) to is

    to_step : Steps g from to
    to_step = subst (λ k. Contains (list_at g from) k) read.1 (Contains-get_or (list_at g from) (taken_at s from) 0 read.0)

    pub to_within : to < length g
    to_within = within from to to_step

    below : (p : ℕ) → Contains s.path p → Reaches g p to
    below p c = elim (contains_cases from p last.0 (subst (λ k. Contains k p) last.1 c)) [
      | inl e ↦ subst (λ k. Reaches g k to) e (reaches_more g from from to (reaches_itself g from) to_step)
      | inr k ↦ let path : IsPath g (from ∷ last.0) = subst (IsPath g) last.1 w.path in reaches_more g p from to (path.0 p k).0 to_step
    ]

    old : IsSeen s to → Advances g s (with_taken s from)
    old there = record {
      on = record { walk = takes g s w from last_within read.0 (subst (λ k. IsSeen s k) (sym read.1) there); seen = λ q h. h };
      less = let e = take_less g s from last_within (omega (arith, last_within, w.taken_count)) read.0 in omega (arith, e);
    }

    new : (IsSeen s to → ⊥) → Advances g s (with_taken (entered s to) from)
    new n = record {
      on = record {
        walk =
            takes g (entered s to) (enters g s w to to_within n below) from last_within read.0
            (subst (λ k. IsSeen (entered s to) k) (sym read.1) (seen_itself s to (omega (arith, to_within, w.seen_count))));
        seen = λ q h. seen_more s to (omega (arith, to_within, w.seen_count)) q h;
      };
      less =
          let e = take_less g (entered s to) from last_within (omega (arith, last_within, w.taken_count)) read.0 in
          let one : work g (entered s to) ≡ work g s + 1 = omega arith in
          omega (arith, e, one);
    }

    pub advances : (t : Walked) → t ≡ cond (get_or s.seen to false) s (entered s to) → Advances g s (with_taken t from)
    advances t made = split (get_or s.seen to false) refl made
      where
        split : (b : Bool) → get_or s.seen to false ≡ b → t ≡ cond b s (entered s to) → Advances g s (with_taken t from)
        split true h e = subst (λ k. Advances g s (with_taken k from)) (sym e) (old h)
        split false h e = subst (λ k. Advances g s (with_taken k from)) (sym e) (new (λ y. false≢true (sym h ∙ y)))

  pub goes_back : slice_get (list_at g from) (taken_at s from) ≡ None → Advances g s (left s from last.0)
  goes_back is = record {
    on = record { walk = leaves g s w from last.0 last.1 (got_none (list_at g from) (taken_at s from) is); seen = λ q h. h };
    less = let e : length s.path ≡ suc (length last.0) = ap length last.1 in omega (arith, e);
  }

pub starts : (g : List (List ℕ)) (s t : Walked) (q : ℕ) → IsWalk g s → s.path ≡ [] → q < length g → t ≡ cond (get_or s.seen q false) s (entered s q) → GoesOn g s t × IsSeen t q
starts g s t q w none small made = split (get_or s.seen q false) refl made
  where
    split : (b : Bool) → get_or s.seen q false ≡ b → t ≡ cond b s (entered s q) → GoesOn g s t × IsSeen t q
    split true h e = subst (λ k. GoesOn g s k × IsSeen k q) (sym e) (record { walk = w; seen = λ x is. is }, h)
    split false h e =
        let lt : q < length s.seen = omega (arith, small, w.seen_count) in
        subst (λ k. GoesOn g s k × IsSeen k q) (sym e) (
          record {
            walk = enters g s w q small (λ y. false≢true (sym h ∙ y)) (λ p c. absurd (contains_none p (subst (λ k. Contains k p) none c)));
            seen = seen_more s q lt;
          },
          seen_itself s q lt,
        )
