-- The walk that finds the classes of procedures that reach one another.
use Rattle.std.proofs.Common.{◌≡◌, ◌≢◌, ℕ, zero, suc, ◌+◌, ◌<◌, ◌≤◌, ◌-◌, ◌⊎◌, inl, inr, cond, List, [], ◌∷◌, ◌++◌, length, get_or, set, map, take, drop, reverse, replicate, slice_get, Some, None, nat_le, refl, sym, ap, subst, ◌∙◌, arith}
use Rattle.std.proofs.lemmas.Bool.{cases_lt, cases_eq, cases_Bool, leb-true, leb-false}
use Rattle.std.proofs.lemmas.List.{get_or_append_left, get_or_push, get_or_past, get_or-set_same, get_or-set_other, get_or-replicate, get_or-take, get_or-drop, get_or_default, length-set, length-map, length-replicate, length-drop, length-take-le, length_push, reverse-append}
use Rattle.std.proofs.lemmas.List.Elements.{Contains-get_or}
use Rattle.std.specs.List.{Contains, All}
use Rattle.recursion_groups.specs.declared.walk.Mark.{Mark}
use Rattle.recursion_groups.specs.declared.walk.Mark.TheVariants.{New, Open, Done}
use Rattle.recursion_groups.specs.declared.walk.Pending.{Pending}
use Rattle.recursion_groups.specs.Walks.{list_at, Steps, StepsThrough, LeadsTo, AreWithin, Walked, mark_of, at_first, with_pending, added, entered, unbound, joined, AreMarked, IsClosed, IsFirst, NoneAbove, IsOnward, Falls, AreLast, IsSettled, IsBelow, total, fresh, weight, IsWalk, work, KeepsMet, Advances, IsMet, Meets, Classed, classed, class_of, class_at, AreClasses}
use Rattle.recursion_groups.specs.Walks.IsSettled.{to_follow, in_class, onward}
use Rattle.recursion_groups.specs.Found.{has}
use Rattle.recursion_groups.proofs.FoundLemmas.{contains_from_has, not_has}
use Rattle.recursion_groups.proofs.CallLemmas.{take_old, take_new, take_cases}

-- Lists

got : {X : Type 0} (xs : List X) (k : ℕ) (x : X) → slice_get xs k ≡ Some x → k < length xs
got [] k x e = absurd (let d : None ≡ Some x = e in cc)
got (y ∷ xs) zero x e = omega arith
got (y ∷ xs) (suc k) x e = omega (arith, got xs k x e)

split_last : {X : Type 0} (xs : List X) (n : ℕ) (x : X) → length xs ≡ suc n → slice_get xs n ≡ Some x → xs ≡ take n xs ++ x ∷ []
split_last [] n x len e = absurd (omega (arith, len))
split_last (y ∷ []) zero x len e = let d : Some y ≡ Some x = e in let same : y ≡ x = cc in ap (λ k. k ∷ []) same
split_last (y ∷ []) (suc n) x len e = absurd (omega (arith, len))
split_last (y ∷ z ∷ xs) zero x len e = absurd (omega (arith, len))
split_last (y ∷ z ∷ xs) (suc n) x len e = ap (λ k. y ∷ k) (split_last (z ∷ xs) n x (omega (arith, len)) e)

-- the last of a list is the first of its reverse
pub last_first : {X : Type 0} (xs : List X) (x : X) → slice_get xs (length xs - 1) ≡ Some x → IsFirst (reverse xs) x
last_first xs x e =
    let lt = got xs (length xs - 1) x e in (
      reverse (take (length xs - 1) xs),
      ap reverse (split_last xs (length xs - 1) x (omega (arith, lt)) e) ∙ reverse-append (take (length xs - 1) xs) (x ∷ []),
    )

head_in : {X : Type 0} (x y : X) (xs : List X) → x ≡ y → Contains (x ∷ xs) y
head_in x y xs e = (0, omega arith, e)

tail_in : {X : Type 0} (x y : X) (xs : List X) → Contains xs y → Contains (x ∷ xs) y
tail_in x y xs h = (suc h.0, omega (arith, h.1), h.2)

in_cases : {X : Type 0} (x y : X) (xs : List X) → Contains (x ∷ xs) y → (x ≡ y) ⊎ Contains xs y
in_cases x y xs (zero, lt, e) = inl e
in_cases x y xs (suc k, lt, e) = inr (k, omega arith, e)

in_none : {X : Type 0} (x : X) → Contains {X = X} [] x → ⊥
in_none x h = omega (arith, h.1)

is_in : (us : List ℕ) (q : ℕ) → Contains us q ⊎ (Contains us q → ⊥)
is_in us q = elim (cases_Bool (has us q)) [ inl e ↦ inl (contains_from_has us q e) | inr e ↦ inr (not_has us q e) ]

-- Marks

module _ (members : List ℕ) (class : ℕ) (old new : List Mark) (i : ℕ) (was : AreMarked (take i members) class old new) (lt : i < length members) where
  pub marked_more : get_or members i 0 < length new → AreMarked (take (i + 1) members) class old (set new (get_or members i 0) (Done class))
  marked_more within = record {
    done = λ q h. elim (cases_eq q (get_or members i 0)) [
      | inl e ↦ subst (λ k. get_or (set new (get_or members i 0) (Done class)) k New ≡ Done class) (sym e) (get_or-set_same new (get_or members i 0) (Done class) New within)
      | inr ne ↦ get_or-set_other new (get_or members i 0) q (Done class) New ne ∙ was.done q (elim (take_cases members i (get_or members i 0) lt (get_or_default members i 0 (get_or members i 0) lt) q h) [
        | inl k ↦ k
        | inr e ↦ absurd (ne (sym e))
      ])
    ];
    kept = λ q none.
        let ne : q ≢ get_or members i 0 = λ e. none (subst (λ k. Contains (take (i + 1) members) k) (sym e) (take_new members i (get_or members i 0) lt (get_or_default members i 0 (get_or members i 0) lt))) in
        get_or-set_other new (get_or members i 0) q (Done class) New ne ∙ was.kept q (λ k. none (take_old members i (get_or members i 0) lt (get_or_default members i 0 (get_or members i 0) lt) q k));
  }

-- Steps

leads_itself : (lists : List (List ℕ)) (p : ℕ) → LeadsTo lists p p
leads_itself lists p = ([], refl)

through_on : (lists : List (List ℕ)) (p : ℕ) (rs : List ℕ) (q r : ℕ) → StepsThrough lists p rs q → LeadsTo lists q r → LeadsTo lists p r
through_on lists p [] q r h t = subst (λ k. LeadsTo lists k r) (sym h) t
through_on lists p (s ∷ rs) q r h t = let u = through_on lists s rs q r h.1 t in (s ∷ u.0, (h.0, u.1))

pub leads_on : (lists : List (List ℕ)) (p q r : ℕ) → LeadsTo lists p q → LeadsTo lists q r → LeadsTo lists p r
leads_on lists p q r h t = through_on lists p h.0 q r h.1 t

pub leads_step : (lists : List (List ℕ)) (p q : ℕ) → Steps lists p q → LeadsTo lists p q
leads_step lists p q h = (q ∷ [], (h, refl))

-- Sums

pub total-le : (f h : ℕ → ℕ) (n : ℕ) → ((k : ℕ) → k < n → f k ≤ h k) → total f n ≤ total h n
total-le f h zero le = omega arith
total-le f h (suc n) le = omega (arith, total-le f h n (λ k lt. le k (omega arith)), le n (omega arith))

pub total-less : (f h : ℕ → ℕ) (n i d : ℕ) → ((k : ℕ) → k < n → f k ≤ h k) → i < n → f i + d ≤ h i → total f n + d ≤ total h n
total-less f h zero i d le lt e = absurd (omega arith)
total-less f h (suc n) i d le lt e =
    elim (cases_lt i n) [
      | inl below ↦ omega (arith, total-less f h n i d (λ k lt. le k (omega arith)) below e, le n (omega arith))
      | inr above ↦
          let at : i ≡ n = omega arith in
          omega (arith, total-le f h n (λ k lt. le k (omega arith)), subst (λ j. f j + d ≤ h j) at e)
    ]

-- Calls that are to be followed

added_old : (i : ℕ) (us : List ℕ) (es : List Pending) (e : Pending) → Contains es e → Contains (added i us es) e
added_old i [] es e h = h
added_old i (u ∷ us) es e h = added_old i us (record { place = i; to = u } ∷ es) e (tail_in (record { place = i; to = u }) e es h)

added_new : (i : ℕ) (us : List ℕ) (es : List Pending) (q : ℕ) → Contains us q → Contains (added i us es) (record { place = i; to = q })
added_new i [] es q h = absurd (in_none q h)
added_new i (u ∷ us) es q h = elim (in_cases u q us h) [
  | inl e ↦ added_old i us (record { place = i; to = u } ∷ es) (record { place = i; to = q })
      (head_in (record { place = i; to = u }) (record { place = i; to = q }) es (ap (λ (k : ℕ). let d : Pending = record { place = i; to = k } in d) e))
  | inr k ↦ added_new i us (record { place = i; to = u } ∷ es) q k
]

added_cases : (i : ℕ) (us : List ℕ) (es : List Pending) (e : Pending) → Contains (added i us es) e → Contains es e ⊎ ((e.place ≡ i) × Contains us e.to)
added_cases i [] es e h = inl h
added_cases i (u ∷ us) es e h = elim (added_cases i us (record { place = i; to = u } ∷ es) e h) [
  | inl k ↦ elim (in_cases (record { place = i; to = u }) e es k) [
    | inl same ↦ inr (sym (ap (λ (d : Pending). d.place) same), head_in u e.to us (ap (λ (d : Pending). d.to) same))
    | inr m ↦ inl m
  ]
  | inr k ↦ inr (k.0, tail_in u e.to us k.1)
]

added_last : (i : ℕ) (us : List ℕ) (es : List Pending) → AreLast es → ((d : Pending) → Contains es d → d.place ≤ i) → AreLast (added i us es)
added_last i [] es last low = last
added_last i (u ∷ us) es last low =
    added_last i us (record { place = i; to = u } ∷ es) (low, last)
    (λ d h. elim (in_cases (record { place = i; to = u }) d es h) [
      | inl same ↦ let e : i ≡ d.place = ap (λ (d : Pending). d.place) same in omega (arith, e)
      | inr k ↦ low d k
    ])

added_count : (i : ℕ) (us : List ℕ) (es : List Pending) → length (added i us es) ≡ length us + length es
added_count i [] es = omega arith
added_count i (u ∷ us) es = omega (arith, added_count i us (record { place = i; to = u } ∷ es))

none_above : (es : List Pending) (b : ℕ) → AreLast es → NoneAbove es b → (e : Pending) → Contains es e → e.place < b
none_above [] b last none e h = absurd (in_none e h)
none_above (d ∷ es) b last none e h =
    let low : d.place < b = none d es refl in
    elim (in_cases d e es h) [
      | inl same ↦ let at : d.place ≡ e.place = ap (λ (d : Pending). d.place) same in omega (arith, low, at)
      | inr k ↦ omega (arith, low, last.0 e k)
    ]

-- Bounds

unbound_in : (i : ℕ) (bs : List ℕ) (c : ℕ) → Contains (unbound i bs) c → Contains bs c
unbound_in i [] c h = h
unbound_in i (b ∷ bs) c h = elim (cases_Bool (nat_le b i)) [
  | inl e ↦ let k : Contains (cond (nat_le b i) (b ∷ bs) (unbound i bs)) c = h in subst (λ t. Contains (cond t (b ∷ bs) (unbound i bs)) c) e k
  | inr e ↦ let k : Contains (cond (nat_le b i) (b ∷ bs) (unbound i bs)) c = h in
      tail_in b c bs (unbound_in i bs c (subst (λ t. Contains (cond t (b ∷ bs) (unbound i bs)) c) e k))
]

unbound_low : (i : ℕ) (bs : List ℕ) (c : ℕ) → Falls bs → Contains (unbound i bs) c → c ≤ i
unbound_low i [] c f h = absurd (in_none c h)
unbound_low i (b ∷ bs) c f h = elim (cases_Bool (nat_le b i)) [
  | inl e ↦ let k : Contains (b ∷ bs) c = subst (λ t. Contains (cond t (b ∷ bs) (unbound i bs)) c) e h in
      let low : b ≤ i = leb-true b i e in
      elim (in_cases b c bs k) [ inl same ↦ omega (arith, same, low) | inr m ↦ omega (arith, low, f.0 c m) ]
  | inr e ↦ unbound_low i bs c f.1 (subst (λ t. Contains (cond t (b ∷ bs) (unbound i bs)) c) e h)
]

unbound_all : (i : ℕ) (bs : List ℕ) (c : ℕ) → Contains bs c → c ≤ i → Contains (unbound i bs) c
unbound_all i [] c h low = absurd (in_none c h)
unbound_all i (b ∷ bs) c h low = elim (cases_Bool (nat_le b i)) [
  | inl e ↦ subst (λ t. Contains (cond t (b ∷ bs) (unbound i bs)) c) (sym e) h
  | inr e ↦ subst (λ t. Contains (cond t (b ∷ bs) (unbound i bs)) c) (sym e) (elim (in_cases b c bs h) [
    | inl same ↦ absurd (omega (arith, same, low, leb-false b i e))
    | inr m ↦ unbound_all i bs c m low
  ])
]

unbound_falls : (i : ℕ) (bs : List ℕ) → Falls bs → Falls (unbound i bs)
unbound_falls i [] f = f
unbound_falls i (b ∷ bs) f = elim (cases_Bool (nat_le b i)) [
  | inl e ↦ subst (λ t. Falls (cond t (b ∷ bs) (unbound i bs))) (sym e) f
  | inr e ↦ subst (λ t. Falls (cond t (b ∷ bs) (unbound i bs))) (sym e) (unbound_falls i bs f.1)
]

unbound_count : (i : ℕ) (bs : List ℕ) → length (unbound i bs) ≤ length bs
unbound_count i [] = omega arith
unbound_count i (b ∷ bs) = elim (cases_Bool (nat_le b i)) [
  | inl e ↦ subst (λ t. length (cond t (b ∷ bs) (unbound i bs)) ≤ suc (length bs)) (sym e) (omega arith)
  | inr e ↦ subst (λ t. length (cond t (b ∷ bs) (unbound i bs)) ≤ suc (length bs)) (sym e) (omega (arith, unbound_count i bs))
]

first_greatest : (b : ℕ) (bs : List ℕ) → Falls (b ∷ bs) → (c : ℕ) → Contains (b ∷ bs) c → c ≤ b
first_greatest b bs f c h = elim (in_cases b c bs h) [ inl e ↦ omega (arith, e) | inr k ↦ let lt = f.0 c k in omega (arith, lt) ]

abbrev walked : List Mark → List ℕ → List ℕ → List Pending → List ℕ → Walked
walked ms st bs es fs = record { marks = ms; stack = st; bounds = bs; pending = es; firsts = fs }

mark_within : (ms : List Mark) (p : ℕ) (i : ℕ) → mark_of ms p ≡ Open i → p < length ms
mark_within ms p i e = elim (cases_lt p (length ms)) [
  | inl lt ↦ lt
  | inr ge ↦ let past : mark_of ms p ≡ New = get_or_past ms p New ge in let bad : New ≡ Open i = sym past ∙ e in absurd cc
]

not_new_open : (m : Mark) (i : ℕ) → m ≡ New → m ≡ Open i → ⊥
not_new_open m i e k = let bad : New ≡ Open i = sym e ∙ k in cc

not_new_done : (m : Mark) (c : ℕ) → m ≡ New → m ≡ Done c → ⊥
not_new_done m c e k = let bad : New ≡ Done c = sym e ∙ k in cc

not_open_done : (m : Mark) (i c : ℕ) → m ≡ Open i → m ≡ Done c → ⊥
not_open_done m i c e k = let bad : Open i ≡ Done c = sym e ∙ k in cc

same_open : (m : Mark) (i j : ℕ) → m ≡ Open i → m ≡ Open j → i ≡ j
same_open m i j e k = let both : Open i ≡ Open j = sym e ∙ k in cc

same_done : (m : Mark) (i j : ℕ) → m ≡ Done i → m ≡ Done j → i ≡ j
same_done m i j e k = let both : Done i ≡ Done j = sym e ∙ k in cc

-- A procedure is met

module _ (lists : List (List ℕ)) (ms : List Mark) (st bs : List ℕ) (was es : List Pending) (fs : List ℕ) (p : ℕ) (h : IsWalk lists (walked ms st bs was fs)) (lt : p < length lists)
    (new : mark_of ms p ≡ New) (sub : (e : Pending) → Contains es e → Contains was e) (rest : (e : Pending) → Contains was e → Contains es e ⊎ (e.to ≡ p)) (last : AreLast es)
    (to : (i : ℕ) → i < length st → LeadsTo lists (get_or st i 0) p) where
  abbrev ns : List Mark
  ns = set ms p (Open (length st))

  abbrev tt' : List ℕ
  tt' = st ++ p ∷ []

  met : mark_of ns p ≡ Open (length st)
  met = get_or-set_same ms p (Open (length st)) New (omega (arith, lt, h.count))

  other : (q : ℕ) → q ≢ p → mark_of ns q ≡ mark_of ms q
  other q ne = get_or-set_other ms p q (Open (length st)) New ne

  done_kept : (q c : ℕ) → mark_of ms q ≡ Done c → mark_of ns q ≡ Done c
  done_kept q c e = other q (λ same. not_new_done (mark_of ms p) c new (subst (λ k. mark_of ms k ≡ Done c) same e)) ∙ e

  open_kept : (q i : ℕ) → mark_of ms q ≡ Open i → mark_of ns q ≡ Open i
  open_kept q i e = other q (λ same. not_new_open (mark_of ms p) i new (subst (λ k. mark_of ms k ≡ Open i) same e)) ∙ e

  done_was : (q c : ℕ) → mark_of ns q ≡ Done c → mark_of ms q ≡ Done c
  done_was q c e = elim (cases_eq q p) [
    | inl same ↦ absurd (not_open_done (mark_of ns p) (length st) c met (subst (λ k. mark_of ns k ≡ Done c) same e))
    | inr ne ↦ sym (other q ne) ∙ e
  ]

  old_at : (i : ℕ) → i < length st → get_or tt' i 0 ≡ get_or st i 0
  old_at i below = get_or_append_left st (p ∷ []) 0 i below

  new_at : (i : ℕ) → i ≡ length st → get_or tt' i 0 ≡ p
  new_at i at = get_or_push st p 0 i (sym at)

  meets_placed : (i : ℕ) → i < length tt' → mark_of ns (get_or tt' i 0) ≡ Open i
  meets_placed i below = elim (cases_lt i (length st)) [
    | inl k ↦ subst (λ q. mark_of ns q ≡ Open i) (sym (old_at i k)) (open_kept (get_or st i 0) i (h.placed i k))
    | inr k ↦ let at : i ≡ length st = omega (arith, below, length_push st p) in
        subst (λ q. mark_of ns q ≡ Open i) (sym (new_at i at)) (met ∙ ap Open (sym at))
  ]

  meets_stands : (q i : ℕ) → mark_of ns q ≡ Open i → (i < length tt') × (get_or tt' i 0 ≡ q)
  meets_stands q i e = elim (cases_eq q p) [
    | inl same ↦ let at : i ≡ length st = same_open (mark_of ns p) i (length st) (subst (λ k. mark_of ns k ≡ Open i) same e) met in
        (omega (arith, at, length_push st p), new_at i at ∙ sym same)
    | inr ne ↦ let old = h.stands q i (sym (other q ne) ∙ e) in (omega (arith, old.0, length_push st p), old_at i old.0 ∙ old.1)
  ]

  meets_calls : (e : Pending) → Contains (added (length st) (list_at lists p) es) e → (e.place < length tt') × Steps lists (get_or tt' e.place 0) e.to
  meets_calls e c = elim (added_cases (length st) (list_at lists p) es e c) [
    | inl k ↦ let old = h.calls e (sub e k) in
        (omega (arith, old.0, length_push st p), subst (λ q. Steps lists q e.to) (sym (old_at e.place old.0)) old.1)
    | inr k ↦ (omega (arith, k.0, length_push st p), subst (λ q. Steps lists q e.to) (sym (new_at e.place k.0)) k.1)
  ]

  meets_reach : (i j : ℕ) → i < length tt' → j < length tt' → IsOnward (length st ∷ bs) i j → LeadsTo lists (get_or tt' i 0) (get_or tt' j 0)
  meets_reach i j li lj on = elim (cases_lt i (length st)) [
    | inl bi ↦ elim (cases_lt j (length st)) [
      | inl bj ↦ subst (λ q. LeadsTo lists q (get_or tt' j 0)) (sym (old_at i bi)) (subst (λ q. LeadsTo lists (get_or st i 0) q) (sym (old_at j bj))
          (h.reach i j bi bj (λ b c. on b (tail_in (length st) b bs c))))
      | inr bj ↦ let at : j ≡ length st = omega (arith, lj, length_push st p) in
          subst (λ q. LeadsTo lists q (get_or tt' j 0)) (sym (old_at i bi)) (subst (λ q. LeadsTo lists (get_or st i 0) q) (sym (new_at j at)) (to i bi))
    ]
    | inr bi ↦
        let at : i ≡ length st = omega (arith, li, length_push st p) in
        let low = on (length st) (head_in (length st) (length st) bs refl) bi in
        let same : j ≡ length st = omega (arith, lj, low, length_push st p) in
        subst (λ q. LeadsTo lists q (get_or tt' j 0)) (sym (new_at i at)) (subst (λ q. LeadsTo lists p q) (sym (new_at j same)) (leads_itself lists p))
  ]

  abbrev after : Walked
  after = walked ns tt' (length st ∷ bs) (added (length st) (list_at lists p) es) fs

  old_settled : (i q : ℕ) → i < length st → IsSettled (walked ms st bs was fs) i q → IsSettled after i q
  old_settled i q lt (to_follow c) = elim (rest (record { place = i; to = q }) c) [
    | inl k ↦ to_follow (added_old (length st) (list_at lists p) es (record { place = i; to = q }) k)
    | inr e ↦ onward (length st) (subst (λ k. mark_of ns k ≡ Open (length st)) (sym e) met) (λ b c le. omega (arith, le, lt))
  ]
  old_settled i q lt (in_class c e) = in_class c (done_kept q c e)
  old_settled i q lt (onward j e on) = onward j (open_kept q j e) (λ b c le. elim (in_cases (length st) b bs c) [
    | inl same ↦ absurd (omega (arith, same, le, lt))
    | inr k ↦ on b k le
  ])

  meets_settled : (i q : ℕ) → i < length tt' → Steps lists (get_or tt' i 0) q → IsSettled after i q
  meets_settled i q li c = elim (cases_lt i (length st)) [
    | inl below ↦ old_settled i q below (h.settled i q below (subst (λ k. Steps lists k q) (old_at i below) c))
    | inr above ↦
        let at : i ≡ length st = omega (arith, li, length_push st p) in
        to_follow (subst (λ k. Contains (added (length st) (list_at lists p) es) (record { place = k; to = q })) (sym at)
        (added_new (length st) (list_at lists p) es q (subst (λ k. Steps lists k q) (new_at i at) c)))
  ]

  fresh_less : (k : ℕ) → fresh (mark_of ns k) ≤ fresh (mark_of ms k)
  fresh_less k = elim (cases_eq k p) [
    | inl same ↦ let e : mark_of ns k ≡ Open (length st) = subst (λ q. mark_of ns q ≡ Open (length st)) (sym same) met in omega (arith, ap fresh e)
    | inr ne ↦ omega (arith, ap fresh (other k ne))
  ]

  weight_less : (k : ℕ) → weight (mark_of ns k) (list_at lists k) ≤ weight (mark_of ms k) (list_at lists k)
  weight_less k = elim (cases_eq k p) [
    | inl same ↦ let e : mark_of ns k ≡ Open (length st) = subst (λ q. mark_of ns q ≡ Open (length st)) (sym same) met in
        omega (arith, ap (λ (m : Mark). weight m (list_at lists k)) e)
    | inr ne ↦ omega (arith, ap (λ (m : Mark). weight m (list_at lists k)) (other k ne))
  ]

  pub meets : IsWalk lists after
  meets = record {
    count = length-set ms p (Open (length st)) ∙ h.count;
    placed = meets_placed;
    stands = meets_stands;
    bottom = λ some. elim (cases_lt 0 (length st)) [
      | inl k ↦ tail_in (length st) 0 bs (h.bottom k)
      | inr k ↦ head_in (length st) 0 bs (omega (arith, k))
    ];
    within = λ b c. elim (in_cases (length st) b bs c) [
      | inl e ↦ omega (arith, e, length_push st p)
      | inr k ↦ omega (arith, h.within b k, length_push st p)
    ];
    falls = (λ c k. h.within c k, h.falls);
    calls = meets_calls;
    last = added_last (length st) (list_at lists p) es last (λ d k. let old = h.calls d (sub d k) in omega (arith, old.0));
    reach = meets_reach;
    settled = meets_settled;
    down = λ q r c e step. let old = h.down q r c (done_was q c e) step in record { class = old.class; done = done_kept r old.class old.done; low = old.low };
    class = λ q r c e k. h.class q r c (done_was q c e) (done_was r c k);
    below = λ q c e. h.below q c (done_was q c e);
    first = λ c low. done_kept (get_or fs c 0) c (h.first c low);
    few =
        let less = total-less (λ k. fresh (mark_of ns k)) (λ k. fresh (mark_of ms k)) (length lists) p 1 (λ k _. fresh_less k) lt (omega (arith, ap fresh met, ap fresh new)) in
        omega (arith, h.few, less);
  }

  pub meets_less : length es ≤ length was → work lists after < work lists (walked ms st bs was fs)
  meets_less fewer =
      let less = total-less (λ k. weight (mark_of ns k) (list_at lists k)) (λ k. weight (mark_of ms k) (list_at lists k)) (length lists) p (length (list_at lists p) + 3)
      (λ k _. weight_less k) lt (omega (arith, ap (λ (m : Mark). weight m (list_at lists p)) met, ap (λ (m : Mark). weight m (list_at lists p)) new)) in
      omega (arith, less, fewer, added_count (length st) (list_at lists p) es)

  pub meets_met : KeepsMet (walked ms st bs was fs) after
  meets_met q e = elim (cases_eq q p) [
    | inl same ↦ subst (λ k. mark_of ms k ≡ New) (sym same) new
    | inr ne ↦ sym (other q ne) ∙ e
  ]

-- A call leads into a class

module _ (lists : List (List ℕ)) (ms : List Mark) (st bs : List ℕ) (e : Pending) (es : List Pending) (fs : List ℕ) (h : IsWalk lists (walked ms st bs (e ∷ es) fs)) where
  -- the same with fewer bounds, where the call is settled
  module _ (cs : List ℕ) (fewer : (c : ℕ) → Contains cs c → Contains bs c) (bottom : 0 < length st → Contains cs 0) (falls : Falls cs) (count : length cs ≤ length bs)
      (reach : (i j : ℕ) → i < length st → j < length st → IsOnward cs i j → LeadsTo lists (get_or st i 0) (get_or st j 0)) (settled : IsSettled (walked ms st cs es fs) e.place e.to) where
    still_settled : (i q : ℕ) → IsSettled (walked ms st bs (e ∷ es) fs) i q → IsSettled (walked ms st cs es fs) i q
    still_settled i q (to_follow c) = elim (in_cases e (record { place = i; to = q }) es c) [
      | inl same ↦
          subst (λ k. IsSettled (walked ms st cs es fs) k q) (ap (λ (d : Pending). d.place) same)
          (subst (λ k. IsSettled (walked ms st cs es fs) e.place k) (ap (λ (d : Pending). d.to) same) settled)
      | inr k ↦ to_follow k
    ]
    still_settled i q (in_class c k) = in_class c k
    still_settled i q (onward j k on) = onward j k (λ b c. on b (fewer b c))

    follows : IsWalk lists (walked ms st cs es fs)
    follows = record {
      count = h.count;
      placed = h.placed;
      stands = h.stands;
      bottom = bottom;
      within = λ b c. h.within b (fewer b c);
      falls = falls;
      calls = λ d c. h.calls d (tail_in e d es c);
      last = h.last.1;
      reach = reach;
      settled = λ i q lt c. still_settled i q (h.settled i q lt c);
      down = λ p q c d s. let old = h.down p q c d s in record { class = old.class; done = old.done; low = old.low };
      class = h.class;
      below = h.below;
      first = h.first;
      few = omega (arith, h.few, count);
    }

  pub passes : (c : ℕ) → mark_of ms e.to ≡ Done c → IsWalk lists (walked ms st bs es fs)
  passes c done = follows bs (λ b k. k) h.bottom h.falls (omega arith) h.reach (in_class c done)

  caller : (e.place < length st) × Steps lists (get_or st e.place 0) e.to
  caller = h.calls e (head_in e e es refl)

  -- and where it leads to place j of the stack, the segments from there on are one
  module _ (b : ℕ) (top : (c : ℕ) → Contains bs c → c ≤ b) (above : b ≤ e.place) (j : ℕ) (there : mark_of ms e.to ≡ Open j) where
    standing : (j < length st) × (get_or st j 0 ≡ e.to)
    standing = h.stands e.to j there

    joined_reach : (i k : ℕ) → i < length st → k < length st → IsOnward (unbound j bs) i k → LeadsTo lists (get_or st i 0) (get_or st k 0)
    joined_reach i k li lk on = elim (cases_lt j i) [
      | inl after ↦
          leads_on lists (get_or st i 0) (get_or st e.place 0) (get_or st k 0) (h.reach i e.place li caller.0 (λ c m le. omega (arith, top c m, above)))
          (leads_on lists (get_or st e.place 0) e.to (get_or st k 0) (leads_step lists (get_or st e.place 0) e.to caller.1)
          (subst (λ q. LeadsTo lists q (get_or st k 0)) standing.1
          (h.reach j k standing.0 lk (λ c m le. on c (unbound_all j bs c m le) (omega (arith, le, after))))))
      | inr before ↦ h.reach i k li lk (λ c m le. on c (unbound_all j bs c m (omega (arith, le, before))) le)
    ]

    pub joins : IsWalk lists (walked ms st (unbound j bs) es fs)
    joins = follows (unbound j bs) (λ c k. unbound_in j bs c k) (λ some. unbound_all j bs 0 (h.bottom some) (omega arith)) (unbound_falls j bs h.falls) (unbound_count j bs) joined_reach
        (onward j there (λ c k le. unbound_low j bs c h.falls k))

-- A segment becomes a class

module _ (lists : List (List ℕ)) (ms ns : List Mark) (st : List ℕ) (b : ℕ) (bs : List ℕ) (es : List Pending) (fs : List ℕ) (h : IsWalk lists (walked ms st (b ∷ bs) es fs)) (none : NoneAbove es b)
    (count : length ns ≡ length ms) (m : AreMarked (drop b st) (length fs) ms ns) where
  abbrev members : List ℕ
  members = drop b st

  inside : b < length st
  inside = h.within b (head_in b b bs refl)

  member_at : (i : ℕ) → b ≤ i → i < length st → Contains members (get_or st i 0)
  member_at i le lt =
      let k : b + (i - b) ≡ i = omega arith in
      subst (λ q. Contains members q) (get_or-drop b st (i - b) 0 ∙ ap (λ (j : ℕ). get_or st j 0) k) (Contains-get_or members (i - b) 0 (omega (arith, length-drop b st)))

  record Stands (q : ℕ) : Type 0 where
    place : ℕ
    above : b ≤ place
    within : place < length st
    there : get_or st place 0 ≡ q

  member_place : (q : ℕ) → Contains members q → Stands q
  member_place q c =
      let lt : b + c.0 < length st = omega (arith, c.1, length-drop b st) in
      record {
        place = b + c.0;
        above = omega arith;
        within = lt;
        there = sym (get_or-drop b st c.0 0) ∙ get_or_default members c.0 0 q c.1 ∙ c.2;
      }

  member_open : (q : ℕ) (s : Stands q) → mark_of ms q ≡ Open s.place
  member_open q s = subst (λ k. mark_of ms k ≡ Open s.place) s.there (h.placed s.place s.within)

  kept_done : (q c : ℕ) → mark_of ms q ≡ Done c → mark_of ns q ≡ Done c
  kept_done q c e = m.kept q (λ k. let s = member_place q k in not_open_done (mark_of ms q) s.place c (member_open q s) e) ∙ e

  kept_open : (q i : ℕ) → mark_of ms q ≡ Open i → i < b → mark_of ns q ≡ Open i
  kept_open q i e lt = m.kept q (λ k. let s = member_place q k in omega (arith, same_open (mark_of ms q) s.place i (member_open q s) e, s.above, lt)) ∙ e

  now_done : (i : ℕ) → b ≤ i → i < length st → mark_of ns (get_or st i 0) ≡ Done (length fs)
  now_done i le lt = m.done (get_or st i 0) (member_at i le lt)

  done_cases : (q c : ℕ) → mark_of ns q ≡ Done c → (mark_of ms q ≡ Done c) ⊎ (Stands q × (c ≡ length fs))
  done_cases q c e = elim (is_in members q) [
    | inl k ↦ inr (member_place q k, same_done (mark_of ns q) c (length fs) e (m.done q k))
    | inr out ↦ inl (sym (m.kept q out) ∙ e)
  ]

  len : length (take b st) ≡ b
  len = length-take-le b st (omega (arith, inside))

  at_below : (i : ℕ) → i < b → get_or (take b st) i 0 ≡ get_or st i 0
  at_below i lt = get_or-take b st i 0 lt

  closes_stands : (q i : ℕ) → mark_of ns q ≡ Open i → (i < length (take b st)) × (get_or (take b st) i 0 ≡ q)
  closes_stands q i e = elim (is_in members q) [
    | inl k ↦ absurd (not_open_done (mark_of ns q) i (length fs) e (m.done q k))
    | inr out ↦
        let old = h.stands q i (sym (m.kept q out) ∙ e) in
        let below : i < b = elim (cases_lt i b) [ inl k ↦ k | inr k ↦ absurd (out (subst (λ r. Contains members r) old.1 (member_at i k old.0))) ] in
        (omega (arith, below, len), at_below i below ∙ old.1)
  ]

  on_low : (i j : ℕ) → i < b → IsOnward bs i j → IsOnward (b ∷ bs) i j
  on_low i j lt on c k le = elim (in_cases b c bs k) [ inl same ↦ absurd (omega (arith, same, le, lt)) | inr r ↦ on c r le ]

  abbrev after_close : Walked
  after_close = walked ns (take b st) bs es (fs ++ get_or st b 0 ∷ [])

  low_settled : (i q : ℕ) → i < b → IsSettled (walked ms st (b ∷ bs) es fs) i q → IsSettled after_close i q
  low_settled i q lt (to_follow c) = to_follow c
  low_settled i q lt (in_class c e) = in_class c (kept_done q c e)
  low_settled i q lt (onward j e on) = elim (cases_lt j b) [
    | inl below ↦ onward j (kept_open q j e below) (λ c k. on c (tail_in b c bs k))
    | inr above ↦
        let there = h.stands q j e in
        in_class (length fs) (subst (λ k. mark_of ns k ≡ Done (length fs)) there.1 (now_done j above there.0))
  ]

  -- what a member calls is in a class
  member_settled : (i q : ℕ) → b ≤ i → IsSettled (walked ms st (b ∷ bs) es fs) i q → IsBelow after_close q (length fs)
  member_settled i q le (to_follow c) = absurd (let low = none_above es b h.last none (record { place = i; to = q }) c in omega (arith, low, le))
  member_settled i q le (in_class c e) = record { class = c; done = kept_done q c e; low = let lt = h.below q c e in omega (arith, lt) }
  member_settled i q le (onward j e on) =
      let there = h.stands q j e in
      record {
        class = length fs;
        done = subst (λ k. mark_of ns k ≡ Done (length fs)) there.1 (now_done j (on b (head_in b b bs refl) le) there.0);
        low = omega arith;
      }

  closes_down : (p q c : ℕ) → mark_of ns p ≡ Done c → Steps lists p q → IsBelow after_close q c
  closes_down p q c e step = elim (done_cases p c e) [
    | inl k ↦ let old = h.down p q c k step in record { class = old.class; done = kept_done q old.class old.done; low = old.low }
    | inr k ↦ let s = k.0 in
        subst (λ (n : ℕ). IsBelow after_close q n) (sym k.1)
        (member_settled s.place q s.above (h.settled s.place q s.within (subst (λ r. Steps lists r q) (sym s.there) step)))
  ]

  members_reach : (p q : ℕ) → Stands p → Stands q → LeadsTo lists p q
  members_reach p q s t =
      subst (λ r. LeadsTo lists r q) s.there (subst (λ r. LeadsTo lists (get_or st s.place 0) r) t.there
      (h.reach s.place t.place s.within t.within (λ c k le. omega (arith, first_greatest b bs h.falls c k, t.above))))

  closes_class : (p q c : ℕ) → mark_of ns p ≡ Done c → mark_of ns q ≡ Done c → LeadsTo lists p q
  closes_class p q c e f = elim (done_cases p c e) [
    | inl k ↦ elim (done_cases q c f) [
      | inl l ↦ h.class p q c k l
      | inr l ↦ absurd (omega (arith, h.below p c k, l.1))
    ]
    | inr k ↦ elim (done_cases q c f) [
      | inl l ↦ absurd (omega (arith, h.below q c l, k.1))
      | inr l ↦ members_reach p q k.0 l.0
    ]
  ]

  closes_first : (c : ℕ) → c < length (fs ++ get_or st b 0 ∷ []) → mark_of ns (get_or (fs ++ get_or st b 0 ∷ []) c 0) ≡ Done c
  closes_first c lt = elim (cases_lt c (length fs)) [
    | inl below ↦ subst (λ q. mark_of ns q ≡ Done c) (sym (get_or_append_left fs (get_or st b 0 ∷ []) 0 c below)) (kept_done (get_or fs c 0) c (h.first c below))
    | inr above ↦ let at : length fs ≡ c = omega (arith, lt, length_push fs (get_or st b 0)) in
        subst (λ q. mark_of ns q ≡ Done c) (sym (get_or_push fs (get_or st b 0) 0 c at)) (now_done b (omega arith) inside ∙ ap Done at)
  ]

  fresh_fewer : (k : ℕ) → fresh (mark_of ns k) ≤ fresh (mark_of ms k)
  fresh_fewer k = elim (is_in members k) [
    | inl c ↦ omega (arith, ap fresh (m.done k c))
    | inr out ↦ omega (arith, ap fresh (m.kept k out))
  ]

  weight_fewer : (k : ℕ) → weight (mark_of ns k) (list_at lists k) ≤ weight (mark_of ms k) (list_at lists k)
  weight_fewer k = elim (is_in members k) [
    | inl c ↦ omega (arith, ap (λ (m : Mark). weight m (list_at lists k)) (m.done k c))
    | inr out ↦ omega (arith, ap (λ (m : Mark). weight m (list_at lists k)) (m.kept k out))
  ]

  pub closes : IsWalk lists after_close
  closes = record {
    count = count ∙ h.count;
    placed = λ i lt. subst (λ q. mark_of ns q ≡ Open i) (sym (at_below i (omega (arith, lt, len)))) (kept_open (get_or st i 0) i (h.placed i (omega (arith, lt, len, inside))) (omega (arith, lt, len)));
    stands = closes_stands;
    bottom = λ some. elim (in_cases b 0 bs (h.bottom (omega (arith, inside)))) [ inl e ↦ absurd (omega (arith, e, some, len)) | inr k ↦ k ];
    within = λ c k. let low = h.falls.0 c k in omega (arith, low, len);
    falls = h.falls.1;
    calls = λ e c.
        let low = none_above es b h.last none e c in
        (omega (arith, low, len), subst (λ q. Steps lists q e.to) (sym (at_below e.place low)) ((h.calls e c).1));
    last = h.last;
    reach = λ i j li lj on.
        let lower : i < b = omega (arith, li, len) in
        let upper : j < b = omega (arith, lj, len) in
        subst (λ q. LeadsTo lists q (get_or (take b st) j 0)) (sym (at_below i lower)) (subst (λ q. LeadsTo lists (get_or st i 0) q) (sym (at_below j upper))
        (h.reach i j (omega (arith, lower, inside)) (omega (arith, upper, inside)) (on_low i j lower on)));
    settled = λ i q li step.
        let lower : i < b = omega (arith, li, len) in
        low_settled i q lower (h.settled i q (omega (arith, lower, inside)) (subst (λ r. Steps lists r q) (at_below i lower) step));
    down = closes_down;
    class = closes_class;
    below = λ q c e. elim (done_cases q c e) [
      | inl k ↦ omega (arith, h.below q c k, length_push fs (get_or st b 0))
      | inr k ↦ omega (arith, k.1, length_push fs (get_or st b 0))
    ];
    first = closes_first;
    few =
        let less = total-le (λ k. fresh (mark_of ns k)) (λ k. fresh (mark_of ms k)) (length lists) (λ k _. fresh_fewer k) in
        omega (arith, h.few, less, length_push fs (get_or st b 0));
  }

  pub closes_less : work lists after_close < work lists (walked ms st (b ∷ bs) es fs)
  closes_less =
      let less = total-le (λ k. weight (mark_of ns k) (list_at lists k)) (λ k. weight (mark_of ms k) (list_at lists k)) (length lists) (λ k _. weight_fewer k) in
      omega (arith, less)

  pub closes_met : KeepsMet (walked ms st (b ∷ bs) es fs) after_close
  closes_met q e = elim (is_in members q) [
    | inl k ↦ absurd (not_new_done (mark_of ns q) (length fs) e (m.done q k))
    | inr out ↦ sym (m.kept q out) ∙ e
  ]

-- One step of a walk

module _ (lists : List (List ℕ)) (old : Walked) (h : IsWalk lists old) (b : ℕ) (bound : IsFirst old.bounds b) where
  from_first : IsWalk lists (walked old.marks old.stack (b ∷ bound.0) old.pending old.firsts)
  from_first = subst (λ (bs : List ℕ). IsWalk lists (walked old.marks old.stack bs old.pending old.firsts)) bound.1 h

  pub bound_within : b < length old.stack
  bound_within = from_first.within b (head_in b b bound.0 refl)

  pub stack_within : All (λ p. p < length old.marks) old.stack
  stack_within k d lt = subst (λ q. q < length old.marks) (get_or_default old.stack k 0 d lt) (mark_within old.marks (get_or old.stack k 0) k (h.placed k lt))

  pub step_closed : (new : Walked) → NoneAbove old.pending b → IsClosed b old new → Advances lists old new
  step_closed new none closed =
      subst (λ (w : Walked). Advances lists w new) (ap (λ (bs : List ℕ). walked old.marks old.stack bs old.pending old.firsts) (sym bound.1))
      (subst (λ (w : Walked). Advances lists (walked old.marks old.stack (b ∷ bound.0) old.pending old.firsts) w) (sym is)
      (record {
        walk = closes lists old.marks new.marks old.stack b bound.0 old.pending old.firsts from_first none closed.count closed.marks;
        met = closes_met lists old.marks new.marks old.stack b bound.0 old.pending old.firsts from_first none closed.count closed.marks;
        less = closes_less lists old.marks new.marks old.stack b bound.0 old.pending old.firsts from_first none closed.count closed.marks;
      }))
    where
      is : new ≡ walked new.marks (take b old.stack) bound.0 old.pending (old.firsts ++ get_or old.stack b 0 ∷ [])
      is = ap (λ (s : List ℕ). walked new.marks s new.bounds new.pending new.firsts) closed.stack
          ∙ ap (λ (s : List ℕ). walked new.marks (take b old.stack) s new.pending new.firsts) (closed.bounds b bound.0 bound.1)
          ∙ ap (λ (s : List Pending). walked new.marks (take b old.stack) bound.0 s new.firsts) closed.pending
          ∙ ap (λ (s : List ℕ). walked new.marks (take b old.stack) bound.0 old.pending s) closed.firsts

  module _ (e : Pending) (call : IsFirst old.pending e) where
    from_call : IsWalk lists (walked old.marks old.stack old.bounds (e ∷ call.0) old.firsts)
    from_call = subst (λ (es : List Pending). IsWalk lists (walked old.marks old.stack old.bounds es old.firsts)) call.1 h

    abbrev called : Walked
    called = walked old.marks old.stack old.bounds (e ∷ call.0) old.firsts

    back : (new : Walked) → Advances lists called new → Advances lists old new
    back new a = subst (λ (w : Walked). Advances lists w new) (ap (λ (es : List Pending). walked old.marks old.stack old.bounds es old.firsts) (sym call.1)) a

    pub call_within : AreWithin lists → e.to < length lists
    call_within within = let c = from_call.calls e (head_in e e call.0 refl) in within (get_or old.stack e.place 0) e.to c.1

    pub step_passed : (c : ℕ) → mark_of old.marks e.to ≡ Done c → Advances lists old (with_pending old call.0)
    step_passed c done = back (with_pending old call.0) (record {
      walk = passes lists old.marks old.stack old.bounds e call.0 old.firsts from_call c done;
      met = λ q k. k;
      less = omega arith;
    })

    top : (c : ℕ) → Contains old.bounds c → c ≤ b
    top c k = first_greatest b bound.0 from_first.falls c (subst (λ (bs : List ℕ). Contains bs c) bound.1 k)

    pub step_joined : b ≤ e.place → (j : ℕ) → mark_of old.marks e.to ≡ Open j → Advances lists old (joined (with_pending old call.0) j)
    step_joined above j there = back (joined (with_pending old call.0) j) (record {
      walk = joins lists old.marks old.stack old.bounds e call.0 old.firsts from_call b top above j there;
      met = λ q k. k;
      less = omega (arith, unbound_count j old.bounds);
    })

    reaches_call : b ≤ e.place → (i : ℕ) → i < length old.stack → LeadsTo lists (get_or old.stack i 0) e.to
    reaches_call above i lt =
        let c = from_call.calls e (head_in e e call.0 refl) in
        leads_on lists (get_or old.stack i 0) (get_or old.stack e.place 0) e.to
        (h.reach i e.place lt c.0 (λ d k le. omega (arith, top d k, above)))
        (leads_step lists (get_or old.stack e.place 0) e.to c.1)

    pub step_entered : AreWithin lists → b ≤ e.place → mark_of old.marks e.to ≡ New → Advances lists old (entered (with_pending old call.0) e.to (list_at lists e.to))
    step_entered within above new = back (entered (with_pending old call.0) e.to (list_at lists e.to)) (record {
      walk = meets lists old.marks old.stack old.bounds (e ∷ call.0) call.0 old.firsts e.to from_call (call_within within) new (λ d k. tail_in e d call.0 k) split from_call.last.1 (reaches_call above);
      met = meets_met lists old.marks old.stack old.bounds (e ∷ call.0) call.0 old.firsts e.to from_call (call_within within) new (λ d k. tail_in e d call.0 k) split from_call.last.1 (reaches_call above);
      less = meets_less lists old.marks old.stack old.bounds (e ∷ call.0) call.0 old.firsts e.to from_call (call_within within) new (λ d k. tail_in e d call.0 k) split from_call.last.1 (reaches_call above) (omega arith);
    })
      where
        split : (d : Pending) → Contains (e ∷ call.0) d → Contains call.0 d ⊎ (d.to ≡ e.to)
        split d k = elim (in_cases e d call.0 k) [ inl same ↦ inr (sym (ap (λ (d : Pending). d.to) same)) | inr r ↦ inl r ]

-- Whole walks

at_most_all : (f : ℕ → ℕ) (k : ℕ) → ((p : ℕ) → f p ≡ 1) → total f k ≤ k
at_most_all f zero one = omega arith
at_most_all f (suc k) one = omega (arith, at_most_all f k one, one k)

pub begins : (lists : List (List ℕ)) (n : ℕ) → n ≡ length lists → IsWalk lists (at_first n)
begins lists n len = record {
  count = length-replicate n New ∙ len;
  placed = λ i lt. absurd (omega (arith, lt));
  stands = λ p i e. absurd (not_new_open (mark_of (replicate n New) p) i (all_new p) e);
  bottom = λ some. absurd (omega (arith, some));
  within = λ b c. absurd (in_none b c);
  falls = tt;
  calls = λ e c. absurd (in_none e c);
  last = tt;
  reach = λ i j lt. absurd (omega (arith, lt));
  settled = λ i q lt. absurd (omega (arith, lt));
  down = λ p q c e. absurd (not_new_done (mark_of (replicate n New) p) c (all_new p) e);
  class = λ p q c e. absurd (not_new_done (mark_of (replicate n New) p) c (all_new p) e);
  below = λ p c e. absurd (not_new_done (mark_of (replicate n New) p) c (all_new p) e);
  first = λ c lt. absurd (omega (arith, lt));
  few = omega (arith, at_most_all (λ p. fresh (mark_of (replicate n New) p)) (length lists) (λ p. ap fresh (all_new p)));
}
  where
    all_new : (p : ℕ) → mark_of (replicate n New) p ≡ New
    all_new p = elim (cases_lt p n) [
      | inl lt ↦ get_or-replicate n p New New lt
      | inr ge ↦ get_or_past (replicate n New) p New (omega (arith, ge, length-replicate n New))
    ]

module _ (lists : List (List ℕ)) (old : Walked) (h : IsWalk lists old) (rest : old.bounds ≡ []) where
  no_stack : length old.stack ≡ 0
  no_stack = elim (cases_lt 0 (length old.stack)) [
    | inl some ↦ absurd (in_none 0 (subst (λ (bs : List ℕ). Contains bs 0) rest (h.bottom some)))
    | inr k ↦ omega (arith, k)
  ]

  root_meets : (p : ℕ) → p < length lists → mark_of old.marks p ≡ New → IsWalk lists (entered old p (list_at lists p))
  root_meets p lt new =
      meets lists old.marks old.stack old.bounds old.pending old.pending old.firsts p h lt new (λ e k. k) (λ e k. inl k) h.last (λ i below. absurd (omega (arith, below, no_stack)))

  root_met : (p : ℕ) → p < length lists → mark_of old.marks p ≡ New → KeepsMet old (entered old p (list_at lists p))
  root_met p lt new =
      meets_met lists old.marks old.stack old.bounds old.pending old.pending old.firsts p h lt new (λ e k. k) (λ e k. inl k) h.last (λ i below. absurd (omega (arith, below, no_stack)))

  pub root_entered : (p : ℕ) → p < length lists → mark_of old.marks p ≡ New → Meets lists p old (entered old p (list_at lists p))
  root_entered p lt new = record {
    walk = root_meets p lt new;
    met = root_met p lt new;
    root_met = λ e.
        let met : mark_of (set old.marks p (Open (length old.stack))) p ≡ Open (length old.stack) = get_or-set_same old.marks p (Open (length old.stack)) New (omega (arith, lt, h.count)) in
        not_new_open (mark_of (set old.marks p (Open (length old.stack))) p) (length old.stack) e met;
  }

  -- nothing is open
  done_or_new : (p : ℕ) → (m : Mark) → mark_of old.marks p ≡ m → (m ≡ New → ⊥) → mark_of old.marks p ≡ Done (class_of m)
  done_or_new p New e met = absurd (met refl)
  done_or_new p (Open i) e met = let s = h.stands p i e in absurd (omega (arith, s.0, no_stack))
  done_or_new p (Done c) e met = e

  module _ (all : (p : ℕ) → p < length lists → IsMet old p) (classes : Classed) (made : classes ≡ classed old) where
    of : classes.of ≡ map class_of old.marks
    of = ap (λ (cs : Classed). cs.of) made

    count : classes.count ≡ length old.firsts
    count = ap (λ (cs : Classed). cs.count) made

    size : length classes.of ≡ length lists
    size = ap length of ∙ length-map old.marks class_of ∙ h.count

    number : (p : ℕ) → class_at classes.of p ≡ class_of (mark_of old.marks p)
    number p = ap (λ (cs : List ℕ). class_at cs p) of ∙ map_at old.marks p
      where
        map_at : (ms : List Mark) (p : ℕ) → get_or (map class_of ms) p 0 ≡ class_of (get_or ms p New)
        map_at [] p = refl
        map_at (m ∷ ms) zero = refl
        map_at (m ∷ ms) (suc p) = map_at ms p

    is_done : (p : ℕ) → p < length lists → mark_of old.marks p ≡ Done (class_at classes.of p)
    is_done p lt = done_or_new p (mark_of old.marks p) refl (all p lt) ∙ ap Done (sym (number p))

    class_is : (p c : ℕ) → mark_of old.marks p ≡ Done c → class_at classes.of p ≡ c
    class_is p c e = number p ∙ ap class_of e

    pub are_classes : AreClasses lists classes
    are_classes = record {
      size = size;
      below = λ p lt. omega (arith, h.below p (class_at classes.of p) (is_done p lt), count);
      some = λ c lt.
          let d = h.first c (omega (arith, lt, count)) in
          record { member = get_or old.firsts c 0; within = omega (arith, done_within old.marks (get_or old.firsts c 0) c d, h.count, size); there = class_is (get_or old.firsts c 0) c d };
      same = λ p q lp lq e. h.class p q (class_at classes.of p) (is_done p lp) (is_done q lq ∙ ap Done (sym e));
      down = λ p q lp step.
          let b = h.down p q (class_at classes.of p) (is_done p lp) step in
          omega (arith, class_is q b.class b.done, b.low);
      few = omega (arith, h.few, count);
    }
      where
        done_within : (ms : List Mark) (p c : ℕ) → mark_of ms p ≡ Done c → p < length ms
        done_within ms p c e = elim (cases_lt p (length ms)) [ inl lt ↦ lt | inr ge ↦ absurd (not_new_done (mark_of ms p) c (get_or_past ms p New ge) e) ]
