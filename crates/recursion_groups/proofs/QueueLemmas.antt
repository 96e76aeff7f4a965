-- The order of classes.
use Rattle.std.proofs.Common.{◌≡◌, ◌≢◌, ℕ, zero, suc, ◌+◌, ◌<◌, ◌≤◌, ◌⊎◌, inl, inr, Bool, true, false, List, [], ◌∷◌, ◌++◌, length, get_or, set, take, replicate, refl, sym, ap, subst, ◌∙◌, arith}
use Rattle.std.proofs.lemmas.Bool.{cases_lt, cases_eq, cases_Bool, false≢true}
use Rattle.std.proofs.lemmas.Cmp.{ranked}
use Rattle.std.proofs.lemmas.List.{get_or_append_left, get_or_push, get_or_past, get_or-set_same, get_or-set_other, get_or-replicate, get_or_default, length-set, length-replicate, length_push, take-append-le, take_at}
use Rattle.std.proofs.lemmas.List.Elements.{Contains-push, Contains-push_cases, Contains-append_left, Contains-get_or}
use Rattle.std.specs.List.{Contains, All}
use Rattle.std.specs.BTreeSet.{insert_key}
use Rattle.std.specs.Ordering.{nat_cmp, match_ordering, MatchOrdering}
use Rattle.std.specs.declared.cmp.Ordering.{Ordering}
use Rattle.std.specs.declared.cmp.Ordering.TheVariants.{Less, Equal, Greater}
use Rattle.recursion_groups.specs.Walks.{list_at, Steps, class_at, total}
use Rattle.recursion_groups.specs.Orders.{IsNextClass, IsClassOrder, AreOuts, Queued, is_placed, next_at, watched, readied, with_ready, with_placed, IsKey, IsWaiting, IsLive, IsQueue, IsNextOpen, IsLeast, Settles, at_first, AreBelow}
use Rattle.recursion_groups.specs.Orders.IsLive.{is_ready, waits, to_settle}
use Rattle.recursion_groups.proofs.FoundLemmas.{contains_head, contains_tail, contains_cases, contains_none}
use Rattle.recursion_groups.proofs.WalkLemmas.{total-less}

-- Keys

insert_new : (ks : List ℕ) (k : ℕ) → Contains (insert_key nat_cmp ks k) k
insert_new [] k = contains_head k k [] refl
insert_new (x ∷ ks) k = by_order (nat_cmp k x) (ranked k x (nat_cmp k x) refl) (insert_new ks k)
  where
    by_order : (o : Ordering) → MatchOrdering o (k < x) (k ≡ x) (x < k) → Contains (insert_key nat_cmp ks k) k → Contains (match_ordering o (k ∷ x ∷ ks) (x ∷ ks) (x ∷ insert_key nat_cmp ks k)) k
    by_order Less h more = contains_head k k (x ∷ ks) refl
    by_order Equal h more = contains_head x k ks (sym h)
    by_order Greater h more = contains_tail x k (insert_key nat_cmp ks k) more

insert_old : (ks : List ℕ) (k q : ℕ) → Contains ks q → Contains (insert_key nat_cmp ks k) q
insert_old [] k q h = absurd (contains_none q h)
insert_old (x ∷ ks) k q h = by_order (nat_cmp k x) (λ m. insert_old ks k q m)
  where
    by_order : (o : Ordering) → (Contains ks q → Contains (insert_key nat_cmp ks k) q) → Contains (match_ordering o (k ∷ x ∷ ks) (x ∷ ks) (x ∷ insert_key nat_cmp ks k)) q
    by_order Less more = contains_tail k q (x ∷ ks) h
    by_order Equal more = h
    by_order Greater more = elim (contains_cases x q ks h) [ inl e ↦ contains_head x q (insert_key nat_cmp ks k) e | inr m ↦ contains_tail x q (insert_key nat_cmp ks k) (more m) ]

insert_cases : (ks : List ℕ) (k q : ℕ) → Contains (insert_key nat_cmp ks k) q → (k ≡ q) ⊎ Contains ks q
insert_cases [] k q h = contains_cases k q [] h
insert_cases (x ∷ ks) k q h = by_order (nat_cmp k x) (λ m. insert_cases ks k q m) h
  where
    by_order : (o : Ordering) → (Contains (insert_key nat_cmp ks k) q → (k ≡ q) ⊎ Contains ks q) → Contains (match_ordering o (k ∷ x ∷ ks) (x ∷ ks) (x ∷ insert_key nat_cmp ks k)) q
        → (k ≡ q) ⊎ Contains (x ∷ ks) q
    by_order Less more m = contains_cases k q (x ∷ ks) m
    by_order Equal more m = inr m
    by_order Greater more m = elim (contains_cases x q (insert_key nat_cmp ks k) m) [
      | inl e ↦ inr (contains_head x q ks e)
      | inr r ↦ elim (more r) [ inl e ↦ inl e | inr old ↦ inr (contains_tail x q ks old) ]
    ]

both_ways : (b : Bool) → b ≡ true → b ≡ false → ⊥
both_ways b t f = false≢true (sym f ∙ t)

-- One class is settled

module _ (outs : List (List ℕ)) (firsts : List ℕ) (w : Queued) (c : ℕ) (rest : List ℕ) (r : ℕ) (h : IsQueue outs firsts w (c ∷ rest)) (o : IsNextOpen (list_at outs c) w.placed (next_at w c) r) where
  within : c < length outs
  within = (h.unsettled c (contains_head c c rest refl)).0

  unplaced : is_placed w c ≡ false
  unplaced = (h.unsettled c (contains_head c c rest refl)).1

  abbrev nexts : List ℕ
  nexts = set w.next c r

  next_same : get_or nexts c 0 ≡ r
  next_same = get_or-set_same w.next c r 0 (omega (arith, within, h.next_count))

  next_other : (d : ℕ) → d ≢ c → get_or nexts d 0 ≡ next_at w d
  next_other d ne = get_or-set_other w.next c d r 0 ne

  bounded : (d : ℕ) → d < length outs → get_or nexts d 0 ≤ length (list_at outs d)
  bounded d lt = elim (cases_eq d c) [
    | inl e ↦ subst (λ k. get_or nexts k 0 ≤ length (list_at outs k)) (sym e) (omega (arith, next_same, o.high))
    | inr ne ↦ omega (arith, next_other d ne, h.bounded d lt)
  ]

  passed : (d k : ℕ) → d < length outs → k < get_or nexts d 0 → is_placed w (get_or (list_at outs d) k 0) ≡ true
  passed d k lt below = elim (cases_eq d c) [
    | inl e ↦
        let here : k < r = subst (λ j. k < j) (ap (λ (j : ℕ). get_or nexts j 0) e ∙ next_same) below in
        subst (λ j. is_placed w (get_or (list_at outs j) k 0) ≡ true) (sym e) (elim (cases_lt k (next_at w c)) [
          | inl old ↦ h.passed c k within old
          | inr new ↦ o.passed k new here
        ])
    | inr ne ↦ h.passed d k lt (omega (arith, below, next_other d ne))
  ]

  closed : (d : ℕ) → d < length outs → is_placed w d ≡ true → get_or nexts d 0 ≡ length (list_at outs d)
  closed d lt e = next_other d (λ same. both_ways (is_placed w c) (subst (λ k. is_placed w k ≡ true) same e) unplaced) ∙ h.closed d lt e

  -- one that waits stays where it is
  still : (d e : ℕ) → IsWaiting outs w d e → is_placed w e ≡ false → get_or nexts d 0 ≡ next_at w d
  still d e wait out = elim (cases_eq d c) [
    | inr ne ↦ next_other d ne
    | inl same ↦
        let here : IsWaiting outs w c e = subst (λ k. IsWaiting outs w k e) same wait in
        let at : r ≡ next_at w c = elim (cases_lt (next_at w c) r) [
          | inl below ↦ absurd (both_ways (is_placed w e) (subst (λ k. is_placed w k ≡ true) here.on (o.passed (next_at w c) (omega arith) below)) out)
          | inr above ↦ omega (arith, above, o.low)
        ] in
        ap (λ (k : ℕ). get_or nexts k 0) same ∙ next_same ∙ at ∙ ap (λ (k : ℕ). next_at w k) (sym same)
  ]

  moved : (v : Queued) → v.next ≡ nexts → (d e : ℕ) → IsWaiting outs w d e → is_placed w e ≡ false → IsWaiting outs v d e
  moved v is d e wait out =
      let at : next_at v d ≡ next_at w d = ap (λ (ns : List ℕ). get_or ns d 0) is ∙ still d e wait out in
      record { within = wait.within; at = omega (arith, at, wait.at); on = ap (λ (k : ℕ). get_or (list_at outs d) k 0) at ∙ wait.on }

  keeps_key : (v : Queued) → v.next ≡ nexts → v.placed ≡ w.placed → (p : ℕ) → IsKey outs firsts w p → IsKey outs firsts v p
  keeps_key v is same p k = record {
    class = k.class;
    within = k.within;
    key = k.key;
    end = ap (λ (ns : List ℕ). get_or ns k.class 0) is ∙ end (cases_eq k.class c);
    out = ap (λ (bs : List Bool). get_or bs k.class false) same ∙ k.out;
  }
    where
      end : (k.class ≡ c) ⊎ (k.class ≢ c) → get_or nexts k.class 0 ≡ length (list_at outs k.class)
      end (inr ne) = next_other k.class ne ∙ k.end
      end (inl e) =
          let old : next_at w c ≡ length (list_at outs c) = subst (λ j. next_at w j ≡ length (list_at outs j)) e k.end in
          subst (λ j. get_or nexts j 0 ≡ length (list_at outs j)) (sym e) (omega (arith, next_same, old, o.low, o.high))

  module _ (d : ℕ) (on : get_or (list_at outs c) r 0 ≡ d) (more : r < length (list_at outs c)) (lt : d < length outs) where
    abbrev lists : List (List ℕ)
    lists = set w.watchers d (list_at w.watchers d ++ c ∷ [])

    abbrev after : Queued
    after = watched w c r d

    list_same : list_at lists d ≡ list_at w.watchers d ++ c ∷ []
    list_same = get_or-set_same w.watchers d (list_at w.watchers d ++ c ∷ []) [] (omega (arith, lt, h.watch_count))

    list_other : (e : ℕ) → e ≢ d → list_at lists e ≡ list_at w.watchers e
    list_other e ne = get_or-set_other w.watchers d e (list_at w.watchers d ++ c ∷ []) [] ne

    kept : (e x : ℕ) → Contains (list_at w.watchers e) x → Contains (list_at lists e) x
    kept e x k = elim (cases_eq e d) [
      | inl same ↦ subst (λ j. Contains (list_at lists j) x) (sym same) (subst (λ us. Contains us x) (sym list_same)
          (Contains-append_left (list_at w.watchers d) (c ∷ []) x (subst (λ j. Contains (list_at w.watchers j) x) same k)))
      | inr ne ↦ subst (λ us. Contains us x) (sym (list_other e ne)) k
    ]

    here : IsWaiting outs after c d
    here = record { within = within; at = omega (arith, next_same, more); on = ap (λ (k : ℕ). get_or (list_at outs c) k 0) next_same ∙ on }

    watches : (e x : ℕ) → Contains (list_at lists e) x → is_placed w e ≡ false → IsWaiting outs after x e
    watches e x k out = elim (cases_eq e d) [
      | inl same ↦ elim (Contains-push_cases (list_at w.watchers d) c x (subst (λ us. Contains us x) (ap (λ (j : ℕ). list_at lists j) same ∙ list_same) k)) [
        | inl old ↦ moved after refl x e (h.watch e x (subst (λ j. Contains (list_at w.watchers j) x) (sym same) old) out) out
        | inr new ↦ subst (λ j. IsWaiting outs after j e) new (subst (λ j. IsWaiting outs after c j) (sym same) here)
      ]
      | inr ne ↦ moved after refl x e (h.watch e x (subst (λ us. Contains us x) (list_other e ne) k) out) out
    ]

    live_on : (x : ℕ) → is_placed w d ≡ false → IsLive firsts w (c ∷ rest) x → IsLive firsts after rest x
    live_on x out (is_ready k) = is_ready k
    live_on x out (waits e k no_e) = waits e (kept e x k) no_e
    live_on x out (to_settle k) = elim (contains_cases c x rest k) [
      | inl same ↦ waits d (subst (λ j. Contains (list_at lists d) j) same (subst (λ us. Contains us c) (sym list_same) (Contains-push (list_at w.watchers d) c))) out
      | inr m ↦ to_settle m
    ]

    pub settled_waits : IsQueue outs firsts after rest
    settled_waits =
        let out : is_placed w d ≡ false = subst (λ k. is_placed w k ≡ false) on (o.stop more) in
        record {
          placed_count = h.placed_count;
          next_count = length-set w.next c r ∙ h.next_count;
          watch_count = length-set w.watchers d (list_at w.watchers d ++ c ∷ []) ∙ h.watch_count;
          bounded = bounded;
          passed = passed;
          closed = closed;
          keys = λ p k. keeps_key after refl refl p (h.keys p k);
          watch = watches;
          unsettled = λ x k. h.unsettled x (contains_tail c x rest k);
          live = λ x lx e. live_on x out (h.live x lx e);
        }

  module _ (end : length (list_at outs c) ≤ r) where
    abbrev done : Queued
    done = readied w c r (get_or firsts c 0)

    keys_on : (p : ℕ) → Contains (insert_key nat_cmp w.ready (get_or firsts c 0)) p → IsKey outs firsts done p
    keys_on p k = elim (insert_cases w.ready (get_or firsts c 0) p k) [
      | inl e ↦ record { class = c; within = within; key = sym e; end = omega (arith, next_same, end, o.high); out = unplaced }
      | inr old ↦ keeps_key done refl refl p (h.keys p old)
    ]

    live_ready : (x : ℕ) → IsLive firsts w (c ∷ rest) x → IsLive firsts done rest x
    live_ready x (is_ready k) = is_ready (insert_old w.ready (get_or firsts c 0) (get_or firsts x 0) k)
    live_ready x (waits e k no_e) = waits e k no_e
    live_ready x (to_settle k) = elim (contains_cases c x rest k) [
      | inl same ↦ is_ready (subst (λ j. Contains (insert_key nat_cmp w.ready (get_or firsts c 0)) (get_or firsts j 0)) same (insert_new w.ready (get_or firsts c 0)))
      | inr m ↦ to_settle m
    ]

    pub settled_ready : IsQueue outs firsts done rest
    settled_ready = record {
      placed_count = h.placed_count;
      next_count = length-set w.next c r ∙ h.next_count;
      watch_count = h.watch_count;
      bounded = bounded;
      passed = passed;
      closed = closed;
      keys = keys_on;
      watch = λ e x k out. moved done refl x e (h.watch e x k out) out;
      unsettled = λ x k. h.unsettled x (contains_tail c x rest k);
      live = λ x lx e. live_ready x (h.live x lx e);
    }

-- A class is placed

module _ (outs : List (List ℕ)) (firsts of : List ℕ) (are : AreOuts outs firsts of) (w : Queued) (p : ℕ) (ps : List ℕ) (h : IsQueue outs firsts w []) (head : w.ready ≡ p ∷ ps)
    (above : (q : ℕ) → Contains ps q → p < q) where
  key : IsKey outs firsts w p
  key = h.keys p (subst (λ us. Contains us p) (sym head) (contains_head p p ps refl))

  pub least_within : p < length of
  least_within = omega (arith, key.key, are.within key.class key.within)

  class_is : class_at of p ≡ key.class
  class_is = ap (λ (k : ℕ). class_at of k) key.key ∙ are.class key.class key.within

  c : ℕ
  c = class_at of p

  c_lt : class_at of p < length outs
  c_lt = omega (arith, class_is, key.within)

  c_out : is_placed w (class_at of p) ≡ false
  c_out = subst (λ k. is_placed w k ≡ false) (sym class_is) key.out

  c_end : next_at w (class_at of p) ≡ length (list_at outs (class_at of p))
  c_end = subst (λ k. next_at w k ≡ length (list_at outs k)) (sym class_is) key.end

  c_key : p ≡ get_or firsts (class_at of p) 0
  c_key = key.key ∙ ap (λ (k : ℕ). get_or firsts k 0) (sym class_is)

  abbrev marks : List Bool
  marks = set w.placed (class_at of p) true

  abbrev placed_now : Queued
  placed_now = with_placed (with_ready w ps) (class_at of p)

  mark_same : get_or marks (class_at of p) false ≡ true
  mark_same = get_or-set_same w.placed (class_at of p) true false (omega (arith, c_lt, h.placed_count))

  mark_other : (d : ℕ) → d ≢ class_at of p → get_or marks d false ≡ is_placed w d
  mark_other d ne = get_or-set_other w.placed (class_at of p) d true false ne

  mark_kept : (d : ℕ) → is_placed w d ≡ true → get_or marks d false ≡ true
  mark_kept d e = elim (cases_eq d (class_at of p)) [
    | inl same ↦ subst (λ k. get_or marks k false ≡ true) (sym same) mark_same
    | inr ne ↦ mark_other d ne ∙ e
  ]

  -- what is not placed now was not, and is another
  out_was : (d : ℕ) → get_or marks d false ≡ false → (d ≢ class_at of p) × (is_placed w d ≡ false)
  out_was d e =
      let ne : d ≢ class_at of p = λ same. both_ways (get_or marks d false) (subst (λ k. get_or marks k false ≡ true) (sym same) mark_same) e in
      (ne, sym (mark_other d ne) ∙ e)

  watch_other : (d : ℕ) → d ≢ class_at of p → list_at (set w.watchers (class_at of p) []) d ≡ list_at w.watchers d
  watch_other d ne = get_or-set_other w.watchers (class_at of p) d [] [] ne

  now_live : (d : ℕ) → d ≢ class_at of p → d < length outs → IsLive firsts w [] d → IsLive firsts placed_now (list_at w.watchers (class_at of p)) d
  now_live d ne lt (is_ready k) = elim (contains_cases p (get_or firsts d 0) ps (subst (λ us. Contains us (get_or firsts d 0)) head k)) [
    | inl same ↦ absurd (ne (sym (are.class d lt) ∙ ap (λ (k : ℕ). class_at of k) (sym same)))
    | inr m ↦ is_ready m
  ]
  now_live d ne lt (waits e k out) = elim (cases_eq e (class_at of p)) [
    | inl same ↦ to_settle (subst (λ j. Contains (list_at w.watchers j) d) same k)
    | inr other ↦ waits e (subst (λ us. Contains us d) (sym (watch_other e other)) k) (mark_other e other ∙ out)
  ]
  now_live d ne lt (to_settle k) = absurd (contains_none d k)

  pub places : IsQueue outs firsts placed_now (list_at w.watchers (class_at of p))
  places = record {
    placed_count = length-set w.placed (class_at of p) true ∙ h.placed_count;
    next_count = h.next_count;
    watch_count = length-set w.watchers (class_at of p) [] ∙ h.watch_count;
    bounded = h.bounded;
    passed = λ d k lt below. mark_kept (get_or (list_at outs d) k 0) (h.passed d k lt below);
    closed = λ d lt e. elim (cases_eq d (class_at of p)) [
      | inl same ↦ subst (λ k. next_at w k ≡ length (list_at outs k)) (sym same) c_end
      | inr ne ↦ h.closed d lt (sym (mark_other d ne) ∙ e)
    ];
    keys = λ q k.
        let old = h.keys q (subst (λ us. Contains us q) (sym head) (contains_tail p q ps k)) in
        let gt = above q k in
        record {
          class = old.class;
          within = old.within;
          key = old.key;
          end = old.end;
          out = mark_other old.class (λ same. omega (arith, gt, old.key, c_key, ap (λ (j : ℕ). get_or firsts j 0) same)) ∙ old.out;
        };
    watch = λ d x k e.
        let was = out_was d e in
        let old = h.watch d x (subst (λ us. Contains us x) (watch_other d was.0) k) was.1 in
        record { within = old.within; at = old.at; on = old.on };
    unsettled = λ x k.
        let wait = h.watch (class_at of p) x k c_out in
        (wait.within, free x wait (get_or marks x false) refl);
    live = λ d lt e. let was = out_was d e in now_live d was.0 lt (h.live d lt was.1);
  }
    where
      free : (x : ℕ) → IsWaiting outs w x (class_at of p) → (b : Bool) → get_or marks x false ≡ b → get_or marks x false ≡ false
      free x wait false e = e
      free x wait true e = elim (cases_eq x (class_at of p)) [
        | inl same ↦ absurd (let end : next_at w x ≡ length (list_at outs x) = subst (λ k. next_at w k ≡ length (list_at outs k)) (sym same) c_end in omega (arith, end, wait.at))
        | inr ne ↦ absurd (let end = h.closed x wait.within (sym (mark_other x ne) ∙ e) in omega (arith, end, wait.at))
      ]

-- The order so far

abbrev pub open_count : Bool → ℕ
open_count true = 0
open_count false = 1

pub record IsSoFar (outs : List (List ℕ)) (firsts : List ℕ) (w : Queued) (order : List ℕ) : Type 0 where
  pub queue : IsQueue outs firsts w []
  pub next : (k : ℕ) → k < length order → IsNextClass outs firsts (take k order) (get_or order k 0)
  pub there : (c : ℕ) → is_placed w c ≡ true → Contains order c
  pub placed : (c : ℕ) → Contains order c → is_placed w c ≡ true
  pub count : length order + total (λ k. open_count (is_placed w k)) (length outs) ≤ length outs

all_same : {X : Type 0} (n c : ℕ) (x : X) → get_or (replicate n x) c x ≡ x
all_same n i x = elim (cases_lt i n) [
  | inl lt ↦ get_or-replicate n i x x lt
  | inr ge ↦ get_or_past (replicate n x) i x (omega (arith, ge, length-replicate n x))
]

pub queue_begins : (outs : List (List ℕ)) (firsts waiting : List ℕ) (n : ℕ) → n ≡ length outs → ((c : ℕ) → c < n → Contains waiting c) → ((c : ℕ) → Contains waiting c → c < n)
    → IsQueue outs firsts (at_first n) waiting
queue_begins outs firsts waiting n len all only = record {
  placed_count = length-replicate n false ∙ len;
  next_count = length-replicate n 0 ∙ len;
  watch_count = length-replicate n [] ∙ len;
  bounded = λ c lt. omega (arith, all_same {X = ℕ} n c 0);
  passed = λ c k lt below. absurd (omega (arith, all_same {X = ℕ} n c 0, below));
  closed = λ c lt e. absurd (both_ways (get_or (replicate n false) c false) e (all_same n c false));
  keys = λ p k. absurd (contains_none p k);
  watch = λ d c k out. absurd (contains_none c (subst (λ us. Contains us c) (all_same {X = List ℕ} n d []) k));
  unsettled = λ c k. (omega (arith, only c k, len), all_same n c false);
  live = λ c lt out. to_settle (all c (omega (arith, lt, len)));
}

at_most : (f : ℕ → ℕ) (n : ℕ) → ((k : ℕ) → f k ≤ 1) → total f n ≤ n
at_most f zero one = omega arith
at_most f (suc n) one = omega (arith, at_most f n one, one n)

pub so_far_begins : (outs : List (List ℕ)) (firsts : List ℕ) (w : Queued) (n : ℕ) → n ≡ length outs → Settles outs firsts (at_first n) w [] → IsSoFar outs firsts w []
so_far_begins outs firsts w n len s = record {
  queue = s.queue;
  next = λ k lt. absurd (omega (arith, lt));
  there = λ c e. absurd (both_ways (is_placed w c) e (ap (λ (bs : List Bool). get_or bs c false) s.same ∙ all_same n c false));
  placed = λ c k. absurd (contains_none c k);
  count = omega (arith, at_most (λ k. open_count (is_placed w k)) (length outs) (λ k. one (is_placed w k)));
}
  where
    one : (b : Bool) → open_count b ≤ 1
    one true = omega arith
    one false = omega arith

module _ (outs : List (List ℕ)) (firsts of : List ℕ) (are : AreOuts outs firsts of) (old popped : Queued) (p : ℕ) (order : List ℕ) (was : IsSoFar outs firsts old order) (least : IsLeast p old popped) where
  abbrev class : ℕ
  class = class_at of p

  pub first_within : p < length of
  first_within = least_within outs firsts of are old p popped.ready was.queue least.keys least.above

  pub class_within : class < length outs
  class_within = c_lt outs firsts of are old p popped.ready was.queue least.keys least.above

  class_out : is_placed old class ≡ false
  class_out = c_out outs firsts of are old p popped.ready was.queue least.keys least.above

  pub class_placed : (w : Queued) → w ≡ with_placed popped class → IsQueue outs firsts w (list_at popped.watchers class)
  class_placed w e =
      subst (λ (v : Queued). IsQueue outs firsts v (list_at popped.watchers class)) (sym (e ∙ ap (λ (v : Queued). with_placed v class) least.rest))
      (subst (λ (us : List (List ℕ)). IsQueue outs firsts (with_placed (with_ready old popped.ready) class) (list_at us class)) (sym (ap (λ (v : Queued). v.watchers) least.rest))
      (places outs firsts of are old p popped.ready was.queue least.keys least.above))

  stands_next : IsNextClass outs firsts order class
  stands_next = record {
    within = class_within;
    apart = λ k. both_ways (is_placed old class) (was.placed class k) class_out;
    ready = λ d step.
        let end = c_end outs firsts of are old p popped.ready was.queue least.keys least.above in
        let at : get_or (list_at outs class) step.0 0 ≡ d = get_or_default (list_at outs class) step.0 0 d step.1 ∙ step.2 in
        was.there d (subst (λ k. is_placed old k ≡ true) at (was.queue.passed class step.0 class_within (omega (arith, step.1, end))));
    least = λ d lt out all.
        let free : is_placed old d ≡ false = elim (cases_Bool (is_placed old d)) [ inl e ↦ absurd (out (was.there d e)) | inr e ↦ e ] in
        low d lt all (was.queue.live d lt free);
  }
    where
      low : (d : ℕ) → d < length outs → ((e : ℕ) → Steps outs d e → Contains order e) → IsLive firsts old [] d → get_or firsts class 0 ≤ get_or firsts d 0
      low d lt all (is_ready k) =
          let key = c_key outs firsts of are old p popped.ready was.queue least.keys least.above in
          elim (contains_cases p (get_or firsts d 0) popped.ready (subst (λ us. Contains us (get_or firsts d 0)) least.keys k)) [
            | inl same ↦ omega (arith, same, key)
            | inr m ↦ omega (arith, least.above (get_or firsts d 0) m, key)
          ]
      low d lt all (waits e k out) =
          let wait = was.queue.watch e d k out in
          let step : Steps outs d e = (next_at old d, wait.at, sym (get_or_default (list_at outs d) (next_at old d) 0 e wait.at) ∙ wait.on) in
          absurd (both_ways (is_placed old e) (was.placed e (all e step)) out)
      low d lt all (to_settle k) = absurd (contains_none d k)

  module _ (placing new : Queued) (made : placing ≡ with_placed popped class) (s : Settles outs firsts placing new []) (longer : List ℕ) (pushed : longer ≡ order ++ class ∷ []) where
    marks_are : new.placed ≡ set old.placed class true
    marks_are = s.same ∙ ap (λ (v : Queued). v.placed) made ∙ ap (λ (v : Queued). set v.placed class true) least.rest

    placed_same : is_placed new class ≡ true
    placed_same = ap (λ (bs : List Bool). get_or bs class false) marks_are ∙ get_or-set_same old.placed class true false (omega (arith, class_within, was.queue.placed_count))

    placed_other : (d : ℕ) → d ≢ class → is_placed new d ≡ is_placed old d
    placed_other d ne = ap (λ (bs : List Bool). get_or bs d false) marks_are ∙ get_or-set_other old.placed class d true false ne

    open_less : (k : ℕ) → open_count (is_placed new k) ≤ open_count (is_placed old k)
    open_less k = elim (cases_eq k class) [
      | inl same ↦ subst (λ j. open_count (is_placed new j) ≤ open_count (is_placed old j)) (sym same) (omega (arith, ap open_count placed_same))
      | inr ne ↦ omega (arith, ap open_count (placed_other k ne))
    ]

    pub round_less : total (λ k. open_count (is_placed new k)) (length outs) + 1 ≤ total (λ k. open_count (is_placed old k)) (length outs)
    round_less =
        total-less (λ k. open_count (is_placed new k)) (λ k. open_count (is_placed old k)) (length outs) class 1 (λ k _. open_less k) class_within
        (omega (arith, ap open_count placed_same, ap open_count class_out))

    next_push : (k : ℕ) → k < length (order ++ class ∷ []) → IsNextClass outs firsts (take k (order ++ class ∷ [])) (get_or (order ++ class ∷ []) k 0)
    next_push k lt = elim (cases_lt k (length order)) [
      | inl below ↦
          subst (λ us. IsNextClass outs firsts us (get_or (order ++ class ∷ []) k 0)) (sym (take-append-le k order (class ∷ []) (omega (arith, below))))
          (subst (λ d. IsNextClass outs firsts (take k order) d) (sym (get_or_append_left order (class ∷ []) 0 k below)) (was.next k below))
      | inr above ↦
          let at : length order ≡ k = omega (arith, lt, above, length_push order class) in
          subst (λ us. IsNextClass outs firsts us (get_or (order ++ class ∷ []) k 0)) (sym (take_at order (class ∷ []) k at))
          (subst (λ d. IsNextClass outs firsts order d) (sym (get_or_push order class 0 k at)) stands_next)
    ]

    pub round_keeps : IsSoFar outs firsts new longer
    round_keeps = subst (λ us. IsSoFar outs firsts new us) (sym pushed) (record {
      queue = s.queue;
      next = next_push;
      there = λ d e. elim (cases_eq d class) [
        | inl same ↦ subst (λ k. Contains (order ++ class ∷ []) k) (sym same) (Contains-push order class)
        | inr ne ↦ Contains-append_left order (class ∷ []) d (was.there d (sym (placed_other d ne) ∙ e))
      ];
      placed = λ d k. elim (Contains-push_cases order class d k) [
        | inl old ↦ elim (cases_eq d class) [
          | inl same ↦ subst (λ j. is_placed new j ≡ true) (sym same) placed_same
          | inr ne ↦ placed_other d ne ∙ was.placed d old
        ]
        | inr same ↦ subst (λ j. is_placed new j ≡ true) same placed_same
      ];
      count = omega (arith, was.count, round_less, length_push order class);
    })

-- every class is placed where none could stand next
module _ (outs : List (List ℕ)) (firsts of : List ℕ) (are : AreOuts outs firsts of) (w : Queued) (order : List ℕ) (was : IsSoFar outs firsts w order) (none : w.ready ≡ []) where
  descend : (fuel c : ℕ) → c < fuel → c < length outs → is_placed w c ≡ false → ⊥
  descend zero c below lt out = omega (arith, below)
  descend (suc fuel) c below lt out = blocked (was.queue.live c lt out)
      (λ d step no_d. let low = are.down c d step in descend fuel d (omega (arith, low, below)) (omega (arith, low, lt)) no_d)
    where
      blocked : IsLive firsts w [] c → ((d : ℕ) → Steps outs c d → is_placed w d ≡ false → ⊥) → ⊥
      blocked (is_ready k) on = contains_none (get_or firsts c 0) (subst (λ us. Contains us (get_or firsts c 0)) none k)
      blocked (waits d k no_d) on =
          let wait = was.queue.watch d c k no_d in
          on d (next_at w c, wait.at, sym (get_or_default (list_at outs c) (next_at w c) 0 d wait.at) ∙ wait.on) no_d
      blocked (to_settle k) on = contains_none c k

  pub order_ends : IsClassOrder outs firsts order
  order_ends = record {
    next = was.next;
    all = λ c lt. elim (cases_Bool (is_placed w c)) [ inl e ↦ was.there c e | inr out ↦ absurd (descend (suc c) c (omega arith) lt out) ];
    count = omega (arith, was.count);
  }

pub below_none : AreBelow 0 []
below_none = record { all = λ q lt. absurd (omega (arith, lt)); only = λ q k. absurd (contains_none q k) }

pub below_push : (n : ℕ) (us : List ℕ) → AreBelow n us → AreBelow (n + 1) (us ++ n ∷ [])
below_push n us was = record {
  all = λ q lt. elim (cases_lt q n) [
    | inl below ↦ Contains-append_left us (n ∷ []) q (was.all q below)
    | inr above ↦ let at : n ≡ q = omega (arith, lt, above) in subst (λ k. Contains (us ++ n ∷ []) k) at (Contains-push us n)
  ];
  only = λ q k. elim (Contains-push_cases us n q k) [ inl old ↦ let lt = was.only q old in omega (arith, lt) | inr e ↦ omega (arith, e) ];
}

-- what a class calls is below all classes
pub outs_below : (outs : List (List ℕ)) (firsts of : List ℕ) → AreOuts outs firsts of → All (λ (ds : List ℕ). All (λ d. d < length outs) ds) outs
outs_below outs firsts of are k ds lt j d below =
    let same : get_or outs k ds ≡ list_at outs k = get_or_default outs k ds [] lt in
    let step : Steps outs k (get_or (list_at outs k) j d) = Contains-get_or (list_at outs k) j d (subst (λ (us : List ℕ). j < length us) same below) in
    let low = are.down k (get_or (list_at outs k) j d) step in
    subst (λ (us : List ℕ). get_or us j d < length outs) (sym same) (omega (arith, low, lt))
