-- The steps from a clause to the unit clause of one of its literals.
use Rattle.std.proofs.Common.{◌≡◌, ℕ, zero, suc, ◌+◌, ◌<◌, ◌≤◌, inl, inr, Bool, true, false, cond, List, [], ◌∷◌, ◌++◌, length, take, drop, Some, slice_get, refl, sym, ap, subst, ◌∙◌, arith}
use Rattle.std.proofs.lemmas.Bool.{cases_Bool, false≢true}
use Rattle.std.proofs.lemmas.List.{append-nil, append_assoc, drop_more, take_more, take_all, drop_all}
use Rattle.std.proofs.lemmas.List.Elements.{Contains-append_right}
use Rattle.std.proofs.lemmas.Option.{slice_get_within, get_or_from_slice_get}
use Rattle.std.specs.List.{Contains}
use Rattle.zo_core.specs.Literals.{Literal, literal_eq}
use Rattle.zo_core.specs.Equality.{literal_eq-true, literal_eq-of, literal_eq-itself}
use Rattle.zo_core.specs.Order.{Ascends}
use Rattle.zo_core.specs.Resolvents.{without}
use Rattle.unit_refutation.specs.Lines.{only, rest_of}

without-cond : (x m : Literal) (c : List Literal) (b : Bool) → literal_eq m x ≡ b → without x (m ∷ c) ≡ cond b (without x c) (m ∷ without x c)
without-cond x m c b e = rw e refl

pub without-append : (x : Literal) (xs ys : List Literal) → without x (xs ++ ys) ≡ without x xs ++ without x ys
without-append x [] ys = refl
without-append x (m ∷ xs) ys = by (literal_eq m x) (without-append x xs ys)
  where
    by : (b : Bool) → without x (xs ++ ys) ≡ without x xs ++ without x ys → cond b (without x (xs ++ ys)) (m ∷ without x (xs ++ ys)) ≡ cond b (without x xs) (m ∷ without x xs) ++ without x ys
    by true h = h
    by false h = ap (λ (zs : List Literal). m ∷ zs) h

-- no literal of an unknown at most v
abbrev pub Above : ℕ → List Literal → Type 0
Above v [] = Unit {0}
Above v (m ∷ c) = (v < m.var) × Above v c

ascends-above : (n v : ℕ) (c : List Literal) → v ≤ n → Ascends n c → Above v c
ascends-above n v [] le h = tt
ascends-above n v (m ∷ c) le h = let lt = h.0 in (omega (arith, lt), ascends-above m.var v c (omega (arith, lt)) h.1)

pub without-above : (x : Literal) (c : List Literal) → Above x.var c → without x c ≡ c
without-above x [] h = refl
without-above x (m ∷ c) h =
    let differs : literal_eq m x ≡ false = elim (cases_Bool (literal_eq m x)) [
      | inl e ↦ absurd (let same = ap (λ (l : Literal). l.var) (literal_eq-true m x e) in let lt = h.0 in omega (arith, lt, same))
      | inr e ↦ e
    ] in
    without-cond x m c false differs ∙ ap (λ (zs : List Literal). m ∷ zs) (without-above x c h.1)

-- taking a literal out of a clause that begins with it
pub without-head : (n : ℕ) (m : Literal) (c : List Literal) → Ascends n (m ∷ c) → without m (m ∷ c) ≡ c
without-head n m c h = without-cond m m c true (literal_eq-itself m) ∙ without-above m c (ascends-above m.var m.var c (omega arith) h.1)

only-append : (l : Literal) (xs ys : List Literal) → only l (xs ++ ys) ≡ only l xs ++ only l ys
only-append l [] ys = refl
only-append l (m ∷ xs) ys = by (literal_eq m l) (only-append l xs ys)
  where
    by : (b : Bool) → only l (xs ++ ys) ≡ only l xs ++ only l ys → cond b (m ∷ only l (xs ++ ys)) (only l (xs ++ ys)) ≡ cond b (m ∷ only l xs) (only l xs) ++ only l ys
    by true h = ap (λ (zs : List Literal). m ∷ zs) h
    by false h = h

only-cond : (l m : Literal) (c : List Literal) (b : Bool) → literal_eq m l ≡ b → only l (m ∷ c) ≡ cond b (m ∷ only l c) (only l c)
only-cond l m c b e = rw e refl

differ : (l m : Literal) → (m ≡ l → ⊥) → literal_eq m l ≡ false
differ l m n = elim (cases_Bool (literal_eq m l)) [ inl e ↦ absurd (n (literal_eq-true m l e)) | inr e ↦ e ]

-- taking out another literal changes nothing where there is but l
without-only : (l m : Literal) (c : List Literal) → (m ≡ l → ⊥) → without m (only l c) ≡ only l c
without-only l m [] n = refl
without-only l m (x ∷ c) n = elim (cases_Bool (literal_eq x l)) [
  | inl e ↦
      let is : x ≡ l = literal_eq-true x l e in
      let other : literal_eq x m ≡ false = differ m x (λ k. n (sym k ∙ is)) in
      ap (without m) (only-cond l x c true e) ∙ without-cond m x (only l c) false other ∙ ap (λ (zs : List Literal). x ∷ zs) (without-only l m c n) ∙ sym (only-cond l x c true e)
  | inr e ↦ ap (without m) (only-cond l x c false e) ∙ without-only l m c n ∙ sym (only-cond l x c false e)
]

only-above : (l : Literal) (c : List Literal) → Above l.var c → only l c ≡ []
only-above l [] h = refl
only-above l (m ∷ c) h =
    let other : literal_eq m l ≡ false = differ l m (λ e. let same = ap (λ (x : Literal). x.var) e in let lt = h.0 in omega (arith, lt, same)) in
    only-cond l m c false other ∙ only-above l c h.1

tail_contains : (m l : Literal) (c : List Literal) → (m ≡ l → ⊥) → Contains (m ∷ c) l → Contains c l
tail_contains m l c n (zero, lt, e) = absurd (n e)
tail_contains m l c n (suc k, lt, e) = (k, omega arith, e)

pub only-one : (n : ℕ) (l : Literal) (c : List Literal) → Ascends n c → Contains c l → only l c ≡ l ∷ []
only-one n l [] h holds = absurd (omega (arith, holds.1))
only-one n l (m ∷ c) h holds = elim (cases_Bool (literal_eq m l)) [
  | inl e ↦
      let is : m ≡ l = literal_eq-true m l e in
      let same : m.var ≡ l.var = ap (λ (x : Literal). x.var) is in
      only-cond l m c true e ∙ ap (λ (zs : List Literal). m ∷ zs) (only-above l c (ascends-above m.var l.var c (omega (arith, same)) h.1)) ∙ ap (λ (x : Literal). x ∷ []) is
  | inr e ↦
      only-cond l m c false e
      ∙ only-one m.var l c h.1 (tail_contains m l c (λ k. false≢true (sym e ∙ literal_eq-of m l k)) holds)
]

pub drop_at_more : (c : List Literal) (i : ℕ) (m : Literal) → slice_get c i ≡ Some m → drop i c ≡ m ∷ drop (i + 1) c
drop_at_more c i m at = drop_more c i m (slice_get_within c i m at) ∙ ap (λ (x : Literal). x ∷ drop (i + 1) c) (get_or_from_slice_get c i m m at)

pub take_at_more : (c : List Literal) (i : ℕ) (m : Literal) → slice_get c i ≡ Some m → take (i + 1) c ≡ take i c ++ m ∷ []
take_at_more c i m at = take_more c i m (slice_get_within c i m at) ∙ ap (λ (x : Literal). take i c ++ x ∷ []) (get_or_from_slice_get c i m m at)

ascends-drop : (n i : ℕ) (c : List Literal) → Ascends n c → (k : ℕ) × Ascends k (drop i c)
ascends-drop n zero c h = (n, h)
ascends-drop n (suc i) [] h = (n, tt)
ascends-drop n (suc i) (m ∷ c) h = ascends-drop m.var i c h.1

-- one literal more is taken out
pub rest_step : (l : Literal) (c : List Literal) (i : ℕ) (m : Literal) → Ascends 0 c → slice_get c i ≡ Some m → (m ≡ l → ⊥) → without m (rest_of l i c) ≡ rest_of l (i + 1) c
rest_step l c i m h at n =
    let below = ascends-drop 0 i c h in
    let down : Ascends below.0 (m ∷ drop (i + 1) c) = subst (λ (ls : List Literal). Ascends below.0 ls) (drop_at_more c i m at) below.1 in
    let front : only l (take (i + 1) c) ≡ only l (take i c) =
    ap (only l) (take_at_more c i m at) ∙ only-append l (take i c) (m ∷ []) ∙ ap (λ (ls : List Literal). only l (take i c) ++ ls) (only-cond l m [] false (differ l m n)) ∙ append-nil (only l (take i c)) in
    without-append m (only l (take i c)) (drop i c)
    ∙ ap (λ (ls : List Literal). ls ++ without m (drop i c)) (without-only l m (take i c) n)
    ∙ ap (λ (ls : List Literal). only l (take i c) ++ without m ls) (drop_at_more c i m at)
    ∙ ap (λ (ls : List Literal). only l (take i c) ++ ls) (without-head below.0 m (drop (i + 1) c) down)
    ∙ ap (λ (ls : List Literal). ls ++ drop (i + 1) c) (sym front)

-- l itself stays
pub rest_stays : (l : Literal) (c : List Literal) (i : ℕ) → slice_get c i ≡ Some l → rest_of l i c ≡ rest_of l (i + 1) c
rest_stays l c i at =
    let front : only l (take (i + 1) c) ≡ only l (take i c) ++ l ∷ [] =
    ap (only l) (take_at_more c i l at) ∙ only-append l (take i c) (l ∷ []) ∙ ap (λ (ls : List Literal). only l (take i c) ++ ls) (only-cond l l [] true (literal_eq-itself l)) in
    ap (λ (ls : List Literal). only l (take i c) ++ ls) (drop_at_more c i l at)
    ∙ sym (append_assoc (only l (take i c)) (l ∷ []) (drop (i + 1) c))
    ∙ ap (λ (ls : List Literal). ls ++ drop (i + 1) c) (sym front)

pub rest_end : (l : Literal) (c : List Literal) (i : ℕ) → Ascends 0 c → Contains c l → length c ≤ i → rest_of l i c ≡ l ∷ []
rest_end l c i h holds le =
    ap (λ (ls : List Literal). only l ls ++ drop i c) (take_all i c le)
    ∙ ap (λ (ls : List Literal). only l c ++ ls) (drop_all i c le)
    ∙ append-nil (only l c)
    ∙ only-one 0 l c h holds

pub rest_holds : (l : Literal) (c : List Literal) (i : ℕ) (m : Literal) → slice_get c i ≡ Some m → Contains (rest_of l i c) m
rest_holds l c i m at =
    subst (λ (ls : List Literal). Contains (only l (take i c) ++ ls) m) (sym (drop_at_more c i m at))
    (Contains-append_right (only l (take i c)) (m ∷ drop (i + 1) c) m (0, omega arith, refl))

pub without-short : (m : Literal) (c : List Literal) → length (without m c) ≤ length c
without-short m [] = omega arith
without-short m (x ∷ c) = by (literal_eq x m) (without-short m c)
  where
    by : (b : Bool) → length (without m c) ≤ length c → length (cond b (without m c) (x ∷ without m c)) ≤ suc (length c)
    by true h = omega (arith, h)
    by false h = omega (arith, h)

pub without-push : (x m : Literal) (xs : List Literal) (b : Bool) → literal_eq m x ≡ b → without x (xs ++ m ∷ []) ≡ without x xs ++ cond b [] (m ∷ [])
without-push x m xs b e = without-append x xs (m ∷ []) ∙ ap (λ (ls : List Literal). without x xs ++ ls) (without-cond x m [] b e)
