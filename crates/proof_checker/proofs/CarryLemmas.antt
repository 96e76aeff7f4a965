-- What stands at a site for unknowns that ascend ascends.
use Rattle.std.proofs.Common.{◌≡◌, ℕ, zero, suc, ◌+◌, ◌<◌, ◌≤◌, ◌⊎◌, inl, inr, ⊎_elim, Bool, true, false, cond, List, [], ◌∷◌, ◌++◌, Option, Some, None, refl, sym, ap, ◌∙◌, subst, arith, length, get_or, sum_by, take}
use Rattle.std.specs.Prelude.{nat_eq}
use Rattle.std.specs.List.{range_with_len}
use Rattle.std.proofs.lemmas.List.{get_or_default}
use Rattle.std.proofs.lemmas.Bool.{eqb-true, cond_both}
use Rattle.zo_core.specs.Literals.{Literal}
use Rattle.zo_core.specs.Order.{Ascends}
use Rattle.verdict_meaning.specs.declared.callee.Callee.{Callee}
use Rattle.verdict_meaning.specs.Systems.{System, members, callees, callee, callee_parts, parts_before}
use Rattle.verdict_meaning.specs.Derivations.{Carried, paired, at_site, carried_number, carried_before, with_number, carried}

-- Numbers that are paired

-- w stands as far above b as v above a, which is one of n numbers
pub record IsShifted (a b n v w : ℕ) : Type 0 where
  pub above : a ≤ v
  pub below : v < a + n
  pub same : w + a ≡ v + b

pub shifted : (n a b v w : ℕ) → carried_number (paired (range_with_len a n) (range_with_len b n)) v ≡ Some w → IsShifted a b n v w
shifted zero a b v w e = cc
shifted (suc n) a b v w e =
    let rest : Option ℕ = carried_number (paired (range_with_len (a + 1) n) (range_with_len (b + 1) n)) v in
    let P : Option ℕ → Type 0 = λ o. o ≡ Some w → IsShifted a b (suc n) v w in
    cond_both (nat_eq a v) (Some b) rest P
    (λ f h. let is : a ≡ v = eqb-true a v f in let to : b ≡ w = cc in record { above = omega arith; below = omega arith; same = omega arith })
    (λ _ h. let more = shifted n (a + 1) (b + 1) v w h in record { above = let x = more.above in omega arith; below = let x = more.below in omega arith; same = let x = more.same in omega arith })
    e

-- one of two lists has the number
pub one_has : (ps qs : List Carried) (v w : ℕ) → carried_number (ps ++ qs) v ≡ Some w → (carried_number ps v ≡ Some w) ⊎ (carried_number qs v ≡ Some w)
one_has [] qs v w e = inr e
one_has (p ∷ ps) qs v w e =
    by_test (nat_eq p.from v) (one_has ps qs v w) e
  where
    by_test : (b : Bool) → (carried_number (ps ++ qs) v ≡ Some w → (carried_number ps v ≡ Some w) ⊎ (carried_number qs v ≡ Some w))
        → cond b (Some p.to) (carried_number (ps ++ qs) v) ≡ Some w → (cond b (Some p.to) (carried_number ps v) ≡ Some w) ⊎ (carried_number qs v ≡ Some w)
    by_test true rest h = inl h
    by_test false rest h = rest h

-- Numbers at a site: the fields stand for themselves, and after them one interface for another

module _ (f a b n : ℕ) (far : f < a) (far' : f < b) where
  abbrev numbers : List Carried
  numbers = paired (range_with_len 1 f) (range_with_len 1 f) ++ paired (range_with_len a n) (range_with_len b n)

  either : (v w : ℕ) → carried_number numbers v ≡ Some w → IsShifted 1 1 f v w ⊎ IsShifted a b n v w
  either v w e =
      ⊎_elim (λ (h : carried_number (paired (range_with_len 1 f) (range_with_len 1 f)) v ≡ Some w). inl (shifted f 1 1 v w h))
      (λ (h : carried_number (paired (range_with_len a n) (range_with_len b n)) v ≡ Some w). inr (shifted n a b v w h))
      (one_has (paired (range_with_len 1 f) (range_with_len 1 f)) (paired (range_with_len a n) (range_with_len b n)) v w e)

  positive : (v w : ℕ) → carried_number numbers v ≡ Some w → 0 < w
  positive v w e =
      ⊎_elim (λ (h : IsShifted 1 1 f v w). let x = h.above in let y = h.same in omega arith) (λ (h : IsShifted a b n v w). let x = h.above in let y = h.same in omega arith) (either v w e)

  in_order : (v w p q : ℕ) → carried_number numbers v ≡ Some p → carried_number numbers w ≡ Some q → v < w → p < q
  in_order v w p q e e' lt =
      ⊎_elim
      (λ (h : IsShifted 1 1 f v p). ⊎_elim
      (λ (k : IsShifted 1 1 f w q). let x = h.same in let y = k.same in omega arith)
      (λ (k : IsShifted a b n w q). let x = h.same in let y = h.below in let z = k.same in let u = k.above in omega arith) (either w q e'))
      (λ (h : IsShifted a b n v p). ⊎_elim
      (λ (k : IsShifted 1 1 f w q). absurd (let x = h.above in let y = k.below in omega arith))
      (λ (k : IsShifted a b n w q). let x = h.same in let y = k.same in omega arith) (either w q e')) (either v p e)

  ascends-number : (m m' : ℕ) (l : Literal) (d ls : List Literal) (o : Option ℕ) → carried_number numbers l.var ≡ o
      → ((w : ℕ) → carried_number numbers l.var ≡ Some w → m' < w) → ((w : ℕ) → carried_number numbers l.var ≡ Some w → Ascends w d) → with_number l.sign d o ≡ Some ls → Ascends m' ls
  ascends-number m m' l d ls None e lt up h = cc
  ascends-number m m' l d ls (Some w) e lt up h =
      let at : Literal = record { var = w; sign = l.sign } in
      let is : at ∷ d ≡ ls = cc in
      let P : List Literal → Type 0 = λ c. Ascends m' c in
      subst P is (lt w e, up w e)

  ascends-before : (m m' : ℕ) (l : Literal) (ls : List Literal) (o : Option (List Literal))
      → ((w : ℕ) → carried_number numbers l.var ≡ Some w → m' < w) → ((d : List Literal) (w : ℕ) → o ≡ Some d → carried_number numbers l.var ≡ Some w → Ascends w d)
      → carried_before numbers l o ≡ Some ls → Ascends m' ls
  ascends-before m m' l ls None lt up h = cc
  ascends-before m m' l ls (Some d) lt up h = ascends-number m m' l d ls (carried_number numbers l.var) refl lt (λ w e. up d w refl e) h

  ascends : (m m' : ℕ) (c ls : List Literal) → ((v w : ℕ) → m < v → carried_number numbers v ≡ Some w → m' < w) → Ascends m c → carried numbers c ≡ Some ls → Ascends m' ls
  ascends m m' [] ls low up e = let is : [] ≡ ls = cc in let P : List Literal → Type 0 = λ c. Ascends m' c in subst P is tt
  ascends m m' (l ∷ c) ls low up e =
      ascends-before m m' l ls (carried numbers c) (λ w h. low l.var w up.0 h)
      (λ d w h k. ascends l.var w c d (λ v u lt at. in_order l.var v w u k at lt) up.1 h) e

pub carried-ascends : (s : System) (g site : ℕ) (c ls : List Literal) → Ascends 0 c → carried (at_site s g site) c ≡ Some ls → Ascends 0 ls
carried-ascends s g site c ls up e =
    let to : Callee = callee s g site in
    ascends s.fields (suc (s.fields + parts_before s to.proc (members s to.group)))
    (suc (s.fields + sum_by s.parts (members s g) + sum_by (callee_parts s) (take site (callees s g)))) (s.parts to.proc) (omega arith) (omega arith)
    0 0 c ls (λ v w lt at. positive s.fields _ _ _ (omega arith) (omega arith) v w at) up e

-- Literals, one by one

-- the first literal is carried, and so are the others
pub record IsCarriedFirst (ps : List Carried) (l : Literal) (c ls : List Literal) : Type 0 where
  pub number : ℕ
  pub others : List Literal
  pub to : carried_number ps l.var ≡ Some number
  pub rest : carried ps c ≡ Some others
  pub is : ls ≡ record { var = number; sign = l.sign } ∷ others

carried-first : (ps : List Carried) (l : Literal) (c ls : List Literal) → carried ps (l ∷ c) ≡ Some ls → IsCarriedFirst ps l c ls
carried-first ps l c ls e = by_rest (carried ps c) refl e
  where
    by_number : (d : List Literal) (o : Option ℕ) → carried ps c ≡ Some d → carried_number ps l.var ≡ o → with_number l.sign d o ≡ Some ls → IsCarriedFirst ps l c ls
    by_number d None r f h = cc
    by_number d (Some n) r f h = record { number = n; others = d; to = f; rest = r; is = cc }

    by_rest : (o : Option (List Literal)) → carried ps c ≡ o → carried_before ps l o ≡ Some ls → IsCarriedFirst ps l c ls
    by_rest None r h = cc
    by_rest (Some d) r h = by_number d (carried_number ps l.var) r refl h

pub carried-length : (ps : List Carried) (c ls : List Literal) → carried ps c ≡ Some ls → length c ≡ length ls
carried-length ps [] ls e = let is : [] ≡ ls = cc in ap length is
carried-length ps (l ∷ c) ls e = let f = carried-first ps l c ls e in ap suc (carried-length ps c f.others f.rest) ∙ ap length (sym f.is)

-- one literal stands for another
abbrev pub IsCarried : List Carried → Literal → Literal → Type 0
IsCarried ps l m = (l.sign ≡ m.sign) × (carried_number ps l.var ≡ Some m.var)

pub carried-each : (ps : List Carried) (c ls : List Literal) → carried ps c ≡ Some ls → (k : ℕ) (d : Literal) → k < length c → IsCarried ps (get_or c k d) (get_or ls k d)
carried-each ps [] ls e k d lt = absurd (omega arith)
carried-each ps (l ∷ c) ls e zero d lt =
    let f = carried-first ps l c ls e in
    let P : List Literal → Type 0 = λ xs. IsCarried ps l (get_or xs 0 d) in
    subst P (sym f.is) (refl, f.to)
carried-each ps (l ∷ c) ls e (suc k) d lt =
    let f = carried-first ps l c ls e in
    let P : List Literal → Type 0 = λ xs. IsCarried ps (get_or c k d) (get_or xs (suc k) d) in
    subst P (sym f.is) (carried-each ps c f.others f.rest k d (omega arith))

pub carried-all : (ps : List Carried) (c ls : List Literal) → length c ≡ length ls → ((k : ℕ) (d : Literal) → k < length c → IsCarried ps (get_or c k d) (get_or ls k d)) → carried ps c ≡ Some ls
carried-all ps [] [] e each = refl
carried-all ps [] (m ∷ ls) e each = absurd (omega arith)
carried-all ps (l ∷ c) [] e each = absurd (omega arith)
carried-all ps (l ∷ c) (m ∷ ls) e each =
    let first : IsCarried ps l m = each 0 l (omega arith) in
    let rest : carried ps c ≡ Some ls = carried-all ps c ls (omega arith) (λ k d lt. each (suc k) d (omega arith)) in
    ap (carried_before ps l) rest ∙ ap (with_number l.sign ls) first.1 ∙ ap (λ (b : Bool). let at : Literal = record { var = m.var; sign = b } in Some (at ∷ ls)) first.0

pub carried-at : (ps : List Carried) (c ls : List Literal) (k : ℕ) (x y : Literal) → carried ps c ≡ Some ls → k < length c → x ≡ get_or c k x → y ≡ get_or ls k y → IsCarried ps x y
carried-at ps c ls k x y e lt p q =
    let same : length c ≡ length ls = carried-length ps c ls e in
    let other : get_or ls k x ≡ y = get_or_default ls k x y (omega arith) ∙ sym q in
    let P : Literal → Type 0 = λ l. IsCarried ps l (get_or ls k x) in
    let Q : Literal → Type 0 = λ m. IsCarried ps x m in
    subst Q other (subst P (sym p) (carried-each ps c ls e k x lt))
