-- Clauses in order: their literals, what gathering keeps, and where two of them can be resolved.
use Rattle.std.proofs.Common.{◌≡◌, ℕ, zero, suc, ◌+◌, ◌<◌, ◌≤◌, ◌⊎◌, inl, inr, ⊎_elim, Bool, true, false, not, List, [], ◌∷◌, ◌++◌, length, drop, get_or, Option, Some, None, refl, sym, ap, ◌∙◌, subst, arith, eqb, ltb, append-nil}
use Rattle.std.specs.Prelude.{MatchBool}
use Rattle.std.specs.List.{Contains}
use Rattle.std.proofs.lemmas.Bool.{cases_eq, ne_eqb, eqb-true, cond_both}
use Rattle.std.proofs.lemmas.List.Elements.{Contains-append_left, Contains-append_right}
use Rattle.zo_core.specs.Literals.{Literal, yes, opposite, same_sign, literal_eq}
use Rattle.zo_core.specs.Equality.{literal_eq-true}
use Rattle.zo_core.specs.Order.{Ascends, behind, with_literal, with_more, gathered}
use Rattle.zo_core.specs.Resolvents.{without, joined_on, IsResolvent}
use Rattle.zo_core.proofs.PlaceLemmas.{next}
use Rattle.zo_core.proofs.Merging.{merged-start, joined-ascends, Ascends-drop}
use Rattle.proof_checker.specs.Checking.{IsPivot}

-- Literals of a clause

pub contains_cases : {X : Type 0} (x y : X) (xs : List X) → Contains (x ∷ xs) y → (x ≡ y) ⊎ Contains xs y
contains_cases x y xs (zero, lt, e) = inl e
contains_cases x y xs (suc k, lt, e) = inr (k, omega arith, e)

pub contains_more : {X : Type 0} (x y : X) (xs : List X) → Contains xs y → Contains (x ∷ xs) y
contains_more x y xs (k, lt, e) = (suc k, omega arith, e)

contains_first : {X : Type 0} (x y : X) (xs : List X) → x ≡ y → Contains (x ∷ xs) y
contains_first x y xs e = (0, omega arith, e)

pub above : (n : ℕ) (c : List Literal) (l : Literal) → Ascends n c → Contains c l → n < l.var
above n [] l up there = absurd (let lt = there.1 in omega arith)
above n (m ∷ c) l up there =
    ⊎_elim (λ (e : m ≡ l). let P : Literal → Type 0 = λ x. n < x.var in subst P e up.0)
    (λ (h : Contains c l). let lt = up.0 in let more = above m.var c l up.1 h in omega arith) (contains_cases m l c there)

at_least : (m : Literal) (c : List Literal) (l : Literal) → Ascends m.var c → Contains (m ∷ c) l → m.var ≤ l.var
at_least m c l up there =
    ⊎_elim (λ (e : m ≡ l). let same : m.var ≡ l.var = ap (λ (x : Literal). x.var) e in omega arith)
    (λ (h : Contains c l). let more = above m.var c l up h in omega arith) (contains_cases m l c there)

-- an unknown is in a clause once
one_unknown : (n : ℕ) (c : List Literal) (x y : Literal) → Ascends n c → Contains c x → Contains c y → x.var ≡ y.var → x ≡ y
one_unknown n [] x y up px py e = absurd (let lt = px.1 in omega arith)
one_unknown n (l ∷ c) x y up px py e =
    ⊎_elim
    (λ (is : l ≡ x). ⊎_elim (λ (is' : l ≡ y). sym is ∙ is')
    (λ (h : Contains c y). let gt = above l.var c y up.1 h in let same : l.var ≡ x.var = ap (λ (z : Literal). z.var) is in absurd (omega arith)) (contains_cases l y c py))
    (λ (h : Contains c x). ⊎_elim
    (λ (is : l ≡ y). let gt = above l.var c x up.1 h in let same : l.var ≡ y.var = ap (λ (z : Literal). z.var) is in absurd (omega arith))
    (λ (k : Contains c y). one_unknown l.var c x y up.1 h k e) (contains_cases l y c py)) (contains_cases l x c px)

signs_differ : (b : Bool) → b ≡ not b → ⊥
signs_differ true e = cc
signs_differ false e = cc

-- and so in one sign
never_both : (n : ℕ) (c : List Literal) (x : Literal) → Ascends n c → Contains c x → Contains c (opposite x) → ⊥
never_both n c x up h k = signs_differ x.sign (ap (λ (z : Literal). z.sign) (one_unknown n c x (opposite x) up h k refl))

-- What gathering keeps

-- the literal is in the clause, if there is one
abbrev AmongOf : Literal → Option (List Literal) → Type 0
AmongOf x None = Unit {0}
AmongOf x (Some c) = Contains c x

behind-first : (x m : Literal) (o : Option (List Literal)) → m ≡ x → AmongOf x (behind m o)
behind-first x m None e = tt
behind-first x m (Some c) e = contains_first m x c e

behind-rest : (x m : Literal) (o : Option (List Literal)) → AmongOf x o → AmongOf x (behind m o)
behind-rest x m None h = tt
behind-rest x m (Some c) h = contains_more m x c h

signs : (x y : Bool) → same_sign x y ≡ true → x ≡ y
signs true true e = refl
signs true false e = cc
signs false true e = cc
signs false false e = refl

literals : (l m : Literal) → l.var ≡ m.var → l.sign ≡ m.sign → l ≡ m
literals l m e f = let at : ℕ → Bool → Literal = λ v s. record { var = v; sign = s } in ap (λ v. at v l.sign) e ∙ ap (at m.var) f

with_literal-keeps : (x l : Literal) (c : List Literal) → (l ≡ x) ⊎ Contains c x → AmongOf x (with_literal l c)
with_literal-keeps x l [] h = ⊎_elim (λ (e : l ≡ x). contains_first l x [] e) (λ (k : Contains [] x). absurd (let lt = k.1 in omega arith)) h
with_literal-keeps x l (m ∷ c) h =
    cond_both (ltb l.var m.var) _ _ (AmongOf x) (λ _. ⊎_elim (λ (e : l ≡ x). contains_first l x (m ∷ c) e) (λ (k : Contains (m ∷ c) x). contains_more l x (m ∷ c) k) h)
    (λ _. cond_both (eqb l.var m.var) _ _ (AmongOf x)
    (λ f. cond_both (same_sign l.sign m.sign) (Some (m ∷ c)) None (AmongOf x) (λ g.
    let same : l ≡ m = literals l m (eqb-true l.var m.var f) (signs l.sign m.sign g) in
    ⊎_elim (λ (e : l ≡ x). contains_first m x c (sym same ∙ e)) (λ (k : Contains (m ∷ c) x). k) h) (λ _. tt {0}))
    (λ _. ⊎_elim (λ (e : l ≡ x). behind-rest x m (with_literal l c) (with_literal-keeps x l c (inl e)))
    (λ (k : Contains (m ∷ c) x). ⊎_elim (λ (e : m ≡ x). behind-first x m (with_literal l c) e)
    (λ (k' : Contains c x). behind-rest x m (with_literal l c) (with_literal-keeps x l c (inr k'))) (contains_cases m x c k)) h))

with_more-keeps : (x : Literal) (ls : List Literal) (o : Option (List Literal)) → Contains ls x ⊎ AmongOf x o → AmongOf x (with_more ls o)
with_more-keeps x [] o h = ⊎_elim (λ (k : Contains [] x). absurd (let lt = k.1 in omega arith)) (λ (k : AmongOf x o). k) h
with_more-keeps x (l ∷ ls) None h = tt
with_more-keeps x (l ∷ ls) (Some c) h =
    with_more-keeps x ls (with_literal l c)
    (⊎_elim
    (λ (k : Contains (l ∷ ls) x). ⊎_elim (λ (e : l ≡ x). inr (with_literal-keeps x l c (inl e))) (λ (k' : Contains ls x). inl k') (contains_cases l x ls k))
    (λ (k : Contains c x). inr (with_literal-keeps x l c (inr k))) h)

gathered-keeps : (x : Literal) (ls c : List Literal) → gathered ls ≡ Some c → Contains ls x → Contains c x
gathered-keeps x ls c e h = let P : Option (List Literal) → Type 0 = AmongOf x in subst P e (with_more-keeps x ls (Some []) (inl h))

without-keeps : (x l : Literal) (c : List Literal) → Contains c l → (l ≡ x → ⊥) → Contains (without x c) l
without-keeps x l [] h ne = absurd (let lt = h.1 in omega arith)
without-keeps x l (m ∷ c) h ne =
    let P : List Literal → Type 0 = λ d. Contains d l in
    ⊎_elim
    (λ (e : m ≡ l). cond_both (literal_eq m x) _ _ P (λ f. absurd (ne (sym e ∙ literal_eq-true m x f))) (λ _. contains_first m l (without x c) e))
    (λ (k : Contains c l). cond_both (literal_eq m x) _ _ P (λ _. without-keeps x l c k ne) (λ _. contains_more m l (without x c) (without-keeps x l c k ne)))
    (contains_cases m l c h)

-- a clause is gathered from itself

without-absent : (x : Literal) (n : ℕ) (c : List Literal) → x.var ≤ n → Ascends n c → without x c ≡ c
without-absent x n [] le up = refl
without-absent x n (m ∷ c) le up =
    let lt = up.0 in
    let ne : (m.var ≡ x.var → ⊥) = λ e. omega arith in
    rw (ne_eqb m.var x.var ne) (ap (λ (d : List Literal). m ∷ d) (without-absent x m.var c (omega arith) up.1))

pub gathered-itself : (c : List Literal) → Ascends 0 c → gathered c ≡ Some c
gathered-itself c up =
    let same : without (yes 0) c ≡ c = without-absent (yes 0) 0 c (omega arith) up in
    let both : gathered (without (yes 0) c ++ []) ≡ Some (without (yes 0) c) = merged-start (yes 0) c [] up in
    rw (same, append-nil c) at both

-- Resolvents

-- where two clauses have a resolvent, they hold one unknown with opposite signs
pub one_pivot : (a b c : List Literal) (x y : Literal) → Ascends 0 a → Ascends 0 b → IsPivot a b x → IsPivot a b y → joined_on y a b ≡ Some c → x ≡ y
one_pivot a b c x y up up' p q e =
    ⊎_elim (λ (same : x.var ≡ y.var). one_unknown 0 a x y up p.0 q.0 same)
    (λ (ne : x.var ≡ y.var → ⊥). absurd (never_both 0 c x (joined-ascends y a b c up up' e)
    (gathered-keeps x (without y a ++ without (opposite y) b) c e (Contains-append_left (without y a) (without (opposite y) b) x
    (without-keeps y x a p.0 (λ is. ne (ap (λ (z : Literal). z.var) is)))))
    (gathered-keeps (opposite x) (without y a ++ without (opposite y) b) c e (Contains-append_right (without y a) (without (opposite y) b) (opposite x)
    (without-keeps (opposite y) (opposite x) b p.1 (λ is. ne (ap (λ (z : Literal). z.var) is)))))))
    (cases_eq x.var y.var)

resolvent_on : (a b c : List Literal) (x : Literal) → Ascends 0 a → Ascends 0 b → IsPivot a b x → IsResolvent a b c → joined_on x a b ≡ Some c
resolvent_on a b c x up up' p (y, r) =
    let same : x ≡ y = one_pivot a b c x y up up' p (r.0, r.1) r.2 in
    let P : Literal → Type 0 = λ z. joined_on z a b ≡ Some c in
    subst P (sym same) r.2

pub no_pivot : (a b c : List Literal) → ((x : Literal) → IsPivot a b x → ⊥) → IsResolvent a b c → ⊥
no_pivot a b c none (y, r) = none y (r.0, r.1)

pub clash : (a b c : List Literal) (x : Literal) → Ascends 0 a → Ascends 0 b → IsPivot a b x → joined_on x a b ≡ None → IsResolvent a b c → ⊥
clash a b c x up up' p e r = let is = resolvent_on a b c x up up' p r in cc

pub is_resolvent : (a b c made : List Literal) (x : Literal) (yes : Bool) → Ascends 0 a → Ascends 0 b → IsPivot a b x → joined_on x a b ≡ Some made
    → MatchBool yes (made ≡ c) (made ≡ c → ⊥) → MatchBool yes (IsResolvent a b c) (IsResolvent a b c → ⊥)
is_resolvent a b c made x true up up' p e m = (x, (p.0, p.1, e ∙ ap Some m))
is_resolvent a b c made x false up up' p e m = λ r. let is = resolvent_on a b c x up up' p r in m (let same : Some made ≡ Some c = sym e ∙ is in cc)

-- Steps of the walk along both clauses

pass_first : (l m x : Literal) (ra rb : List Literal) → Ascends m.var rb → l.var < m.var → IsPivot (l ∷ ra) (m ∷ rb) x → IsPivot ra (m ∷ rb) x
pass_first l m x ra rb up lt p =
    ⊎_elim
    (λ (e : l ≡ x). absurd (let le = at_least m rb (opposite x) up p.1 in let same : l.var ≡ x.var = ap (λ (z : Literal). z.var) e in omega arith))
    (λ (h : Contains ra x). (h, p.1)) (contains_cases l x ra p.0)

pass_second : (l m x : Literal) (ra rb : List Literal) → Ascends l.var ra → m.var < l.var → IsPivot (l ∷ ra) (m ∷ rb) x → IsPivot (l ∷ ra) rb x
pass_second l m x ra rb up lt p =
    ⊎_elim
    (λ (e : m ≡ opposite x). absurd (let le = at_least l ra x up p.0 in let same : m.var ≡ x.var = ap (λ (z : Literal). z.var) e in omega arith))
    (λ (h : Contains rb (opposite x)). (p.0, h)) (contains_cases m (opposite x) rb p.1)

pass_both : (l m x : Literal) (ra rb : List Literal) → Ascends l.var ra → Ascends m.var rb → l.var ≡ m.var → l.sign ≡ m.sign → IsPivot (l ∷ ra) (m ∷ rb) x → IsPivot ra rb x
pass_both l m x ra rb up up' same signed p =
    ⊎_elim
    (λ (e : l ≡ x). absurd (
    let is : l.var ≡ x.var = ap (λ (z : Literal). z.var) e in
    ⊎_elim
    (λ (f : m ≡ opposite x). signs_differ x.sign (ap (λ (z : Literal). z.sign) (sym e) ∙ signed ∙ ap (λ (z : Literal). z.sign) f))
    (λ (h : Contains rb (opposite x)). let gt = above m.var rb (opposite x) up' h in omega arith) (contains_cases m (opposite x) rb p.1)))
    (λ (h : Contains ra x). ⊎_elim
    (λ (f : m ≡ opposite x). absurd (let gt = above l.var ra x up h in let is : m.var ≡ x.var = ap (λ (z : Literal). z.var) f in omega arith))
    (λ (k : Contains rb (opposite x)). (h, k)) (contains_cases m (opposite x) rb p.1)) (contains_cases l x ra p.0)

opposites : (l m : Literal) → l.var ≡ m.var → (l.sign ≡ m.sign → ⊥) → m ≡ opposite l
opposites l m same ne = literals m (opposite l) (sym same) (turned l.sign m.sign ne)
  where
    turned : (x y : Bool) → (x ≡ y → ⊥) → y ≡ not x
    turned true true h = absurd (h refl)
    turned true false h = refl
    turned false true h = refl
    turned false false h = absurd (h refl)

-- the literals at i and at j, which stand before what is left of two clauses
pub record AreNext (a b : List Literal) (i j : ℕ) (l m : Literal) : Type 0 where
  pub first : drop i a ≡ l ∷ drop (i + 1) a
  pub second : drop j b ≡ m ∷ drop (j + 1) b

pub are_next : (a b : List Literal) (i j : ℕ) (l m : Literal) → i < length a → j < length b → l ≡ get_or a i l → m ≡ get_or b j m → AreNext a b i j l m
are_next a b i j l m lt lt' e f = record { first = next a i l lt e; second = next b j m lt' f }

-- the pivots of two clauses are among what is left of them
abbrev pub AreLeft : List Literal → List Literal → ℕ → ℕ → Type 0
AreLeft a b i j = (x : Literal) → IsPivot a b x → IsPivot (drop i a) (drop j b) x

pub left-first : (a b : List Literal) (i j : ℕ) (l m : Literal) → AreNext a b i j l m → Ascends 0 b → l.var < m.var → AreLeft a b i j → AreLeft a b (i + 1) j
left-first a b i j l m n up lt h x p =
    let up' : Ascends 0 (m ∷ drop (j + 1) b) = rw n.second at (Ascends-drop 0 j b up) in
    let q : IsPivot (l ∷ drop (i + 1) a) (m ∷ drop (j + 1) b) x = rw (n.first, n.second) at (h x p) in
    rw n.second (pass_first l m x (drop (i + 1) a) (drop (j + 1) b) up'.1 lt q)

pub left-second : (a b : List Literal) (i j : ℕ) (l m : Literal) → AreNext a b i j l m → Ascends 0 a → m.var < l.var → AreLeft a b i j → AreLeft a b i (j + 1)
left-second a b i j l m n up lt h x p =
    let up' : Ascends 0 (l ∷ drop (i + 1) a) = rw n.first at (Ascends-drop 0 i a up) in
    let q : IsPivot (l ∷ drop (i + 1) a) (m ∷ drop (j + 1) b) x = rw (n.first, n.second) at (h x p) in
    rw n.first (pass_second l m x (drop (i + 1) a) (drop (j + 1) b) up'.1 lt q)

pub left-both : (a b : List Literal) (i j : ℕ) (l m : Literal) → AreNext a b i j l m → Ascends 0 a → Ascends 0 b → l.var ≡ m.var → l.sign ≡ m.sign → AreLeft a b i j → AreLeft a b (i + 1) (j + 1)
left-both a b i j l m n up up' same signed h x p =
    let upa : Ascends 0 (l ∷ drop (i + 1) a) = rw n.first at (Ascends-drop 0 i a up) in
    let upb : Ascends 0 (m ∷ drop (j + 1) b) = rw n.second at (Ascends-drop 0 j b up') in
    let q : IsPivot (l ∷ drop (i + 1) a) (m ∷ drop (j + 1) b) x = rw (n.first, n.second) at (h x p) in
    pass_both l m x (drop (i + 1) a) (drop (j + 1) b) upa.1 upb.1 same signed q

pub found : (a b : List Literal) (i j : ℕ) (l m : Literal) → i < length a → j < length b → l ≡ get_or a i l → m ≡ get_or b j m → l.var ≡ m.var → (l.sign ≡ m.sign → ⊥) → IsPivot a b l
found a b i j l m lt lt' e f same ne =
    ((i, lt, sym e), (let is : m ≡ opposite l = opposites l m same ne in let P : Literal → Type 0 = λ z. Contains b z in subst P is (j, lt', sym f)))

-- nothing is left where one of the two has come to its end
pub none_left : (a b : List Literal) (i j : ℕ) → (drop i a ≡ []) ⊎ (drop j b ≡ []) → AreLeft a b i j → (x : Literal) → IsPivot a b x → ⊥
none_left a b i j (inl e) h x p = let P : List Literal → Type 0 = λ c. Contains c x in let k : Contains [] x = subst P e (h x p).0 in let lt = k.1 in omega arith
none_left a b i j (inr e) h x p = let P : List Literal → Type 0 = λ c. Contains c (opposite x) in let k : Contains [] (opposite x) = subst P e (h x p).1 in let lt = k.1 in omega arith
