-- Lines with their line feeds, and the fronts of lines that begin a text.
use Rattle.std.proofs.Common.{◌≡◌, ℕ, zero, suc, ◌+◌, ◌<◌, ◌≤◌, ◌==◌, Bool, true, false, List, [], ◌∷◌, ◌++◌, length, take, refl, sym, ap, ◌∙◌, get_or, append_assoc, arith}
use Rattle.std.proofs.lemmas.Bool.{eqb-true}
use Rattle.std.proofs.lemmas.List.{take_more}
use Rattle.std.specs.List.{AllByRecursion}
use Rattle.line_texts.specs.Lines.{with_line_feeds, line_feeds, first_lines}

-- no line feed is in these lines
abbrev pub AreLone : List (List ℕ) → Type 0
AreLone ws = AllByRecursion (λ w. line_feeds w ≡ 0) ws

feeds-append_by : (x : ℕ) (a b : List ℕ) (t : Bool) → (x == 10) ≡ t → line_feeds (a ++ b) ≡ line_feeds a + line_feeds b → line_feeds ((x ∷ a) ++ b) ≡ line_feeds (x ∷ a) + line_feeds b
feeds-append_by x a b true e h = rw e (omega (arith, h))
feeds-append_by x a b false e h = rw e h

pub feeds-append : (a b : List ℕ) → line_feeds (a ++ b) ≡ line_feeds a + line_feeds b
feeds-append [] b = omega arith
feeds-append (x ∷ a) b = feeds-append_by x a b (x == 10) refl (feeds-append a b)

-- a byte of a line is no line feed
lone_first_by : (b : ℕ) (bs : List ℕ) (t : Bool) → (b == 10) ≡ t → line_feeds (b ∷ bs) ≡ 0 → ((b == 10) ≡ false) × (line_feeds bs ≡ 0)
lone_first_by b bs true f e = let g : suc (line_feeds bs) ≡ 0 = rw f at e in absurd (omega arith)
lone_first_by b bs false f e = let g : line_feeds bs ≡ 0 = rw f at e in (f, g)

lone_first : (b : ℕ) (bs : List ℕ) → line_feeds (b ∷ bs) ≡ 0 → ((b == 10) ≡ false) × (line_feeds bs ≡ 0)
lone_first b bs e = lone_first_by b bs (b == 10) refl e

lone_not : (b : ℕ) (bs : List ℕ) → line_feeds (b ∷ bs) ≡ 0 → b ≡ 10 → ⊥
lone_not b bs e f = let g : (b == 10) ≡ true = rw f refl in let h = (lone_first b bs e).0 in cc

-- bytes without a line feed, up to a line feed: there is one way to cut them
pub same_cut : (a b x y : List ℕ) → line_feeds a ≡ 0 → line_feeds b ≡ 0 → a ++ 10 ∷ x ≡ b ++ 10 ∷ y → (a ≡ b) × (x ≡ y)
same_cut [] [] x y la lb e = (refl, tail_of e)
  where
    tail_of : 10 ∷ x ≡ 10 ∷ y → x ≡ y
    tail_of e = cc
same_cut [] (b ∷ bs) x y la lb e = absurd (lone_not b bs lb (sym (ap (λ (w : List ℕ). get_or w 0 0) e)))
same_cut (a ∷ front) [] x y la lb e = absurd (lone_not a front la (ap (λ (w : List ℕ). get_or w 0 0) e))
same_cut (a ∷ front) (b ∷ bs) x y la lb e =
    let first : a ≡ b = ap (λ (w : List ℕ). get_or w 0 0) e in
    let rest : front ++ 10 ∷ x ≡ bs ++ 10 ∷ y = tail_of a b (front ++ 10 ∷ x) (bs ++ 10 ∷ y) e in
    let s = same_cut front bs x y (lone_first a front la).1 (lone_first b bs lb).1 rest in
    (ap (λ n. n ∷ front) first ∙ ap (λ (w : List ℕ). b ∷ w) s.0, s.1)
  where
    tail_of : (c d : ℕ) (p q : List ℕ) → c ∷ p ≡ d ∷ q → p ≡ q
    tail_of c d p q e = cc

-- the first line of bytes in which a line feed is
pub record Cut (bs : List ℕ) : Type 0 where
  pub line : List ℕ
  pub rest : List ℕ
  pub is : bs ≡ line ++ 10 ∷ rest
  pub lone : line_feeds line ≡ 0

cut_by : (b : ℕ) (bs : List ℕ) (t : Bool) → (b == 10) ≡ t → 0 < line_feeds (b ∷ bs) → (0 < line_feeds bs → Cut bs) → Cut (b ∷ bs)
cut_by b bs true f some rest = let same : b ≡ 10 = grind arith in record { line = []; rest = bs; is = ap (λ n. n ∷ bs) same; lone = refl }
cut_by b bs false f some rest =
    let more : 0 < line_feeds bs = rw f at some in
    let c = rest more in
    record { line = b ∷ c.line; rest = c.rest; is = ap (λ (w : List ℕ). b ∷ w) c.is; lone = rw f c.lone }

pub cut : (bs : List ℕ) → 0 < line_feeds bs → Cut bs
cut [] some = absurd (omega arith)
cut (b ∷ bs) some = cut_by b bs (b == 10) refl some (cut bs)

-- the lines of bytes that begin with whole lines
pub first_line : (w rest : List ℕ) (n : ℕ) → line_feeds w ≡ 0 → first_lines (suc n) (w ++ 10 ∷ rest) ≡ w ++ 10 ∷ first_lines n rest
first_line [] rest n lone = refl
first_line (b ∷ w) rest n lone = rw (lone_first b w lone).0 (ap (λ (v : List ℕ). b ∷ v) (first_line w rest n (lone_first b w lone).1))

pub line_assoc : (w : List ℕ) (ws : List (List ℕ)) (rest : List ℕ) → with_line_feeds (w ∷ ws) ++ rest ≡ w ++ 10 ∷ (with_line_feeds ws ++ rest)
line_assoc w ws rest =
    append_assoc (w ++ 10 ∷ []) (with_line_feeds ws) rest ∙ append_assoc w (10 ∷ []) (with_line_feeds ws ++ rest)

pub first_of_lines : (ws : List (List ℕ)) (rest : List ℕ) (n : ℕ) → AreLone ws → first_lines (length ws + n) (with_line_feeds ws ++ rest) ≡ with_line_feeds ws ++ first_lines n rest
first_of_lines [] rest n lone = ap (λ k. first_lines k rest) (omega arith)
first_of_lines (w ∷ ws) rest n lone =
    let k : length (w ∷ ws) + n ≡ suc (length ws + n) = omega arith in
    ap (λ j. first_lines j (with_line_feeds (w ∷ ws) ++ rest)) k
    ∙ ap (first_lines (suc (length ws + n))) (line_assoc w ws rest)
    ∙ first_line w (with_line_feeds ws ++ rest) (length ws + n) lone.0
    ∙ ap (λ (v : List ℕ). w ++ 10 ∷ v) (first_of_lines ws rest n lone.1)
    ∙ sym (line_assoc w ws (first_lines n rest))

pub feeds_of_lines : (ws : List (List ℕ)) (rest : List ℕ) → AreLone ws → line_feeds (with_line_feeds ws ++ rest) ≡ length ws + line_feeds rest
feeds_of_lines [] rest lone = omega arith
feeds_of_lines (w ∷ ws) rest lone =
    ap line_feeds (line_assoc w ws rest)
    ∙ feeds-append w (10 ∷ (with_line_feeds ws ++ rest))
    ∙ omega (arith, lone.0, feeds_of_lines ws rest lone.1)

-- fewer lines are a front of more
pub record Front (a b : List ℕ) : Type 0 where
  pub more : List ℕ
  pub is : b ≡ a ++ more

fewer_by : (j k b : ℕ) (bs : List ℕ) (t : Bool) → (b == 10) ≡ t → Front (first_lines j bs) (first_lines k bs) → Front (first_lines (suc j) bs) (first_lines (suc k) bs) → Front (first_lines (suc j) (b ∷ bs)) (first_lines (suc k) (b ∷ bs))
fewer_by j k b bs true f one two = record { more = one.more; is = rw f (ap (λ (w : List ℕ). b ∷ w) one.is) }
fewer_by j k b bs false f one two = record { more = two.more; is = rw f (ap (λ (w : List ℕ). b ∷ w) two.is) }

pub fewer_lines : (j k : ℕ) (bs : List ℕ) → j ≤ k → Front (first_lines j bs) (first_lines k bs)
fewer_lines zero k bs low = record { more = first_lines k bs; is = refl }
fewer_lines (suc j) zero bs low = absurd (omega arith)
fewer_lines (suc j) (suc k) [] low = record { more = []; is = refl }
fewer_lines (suc j) (suc k) (b ∷ bs) low = fewer_by j k b bs (b == 10) refl (fewer_lines j k bs (omega arith)) (fewer_lines (suc j) (suc k) bs low)

pub no_lines : (bs : List ℕ) → first_lines 0 bs ≡ []
no_lines bs = refl

-- whole lines that begin with the bytes of others begin with those lines
pub record Peeled (us vs : List (List ℕ)) (rest : List ℕ) : Type 0 where
  pub others : List (List ℕ)
  pub joined : us ≡ vs ++ others
  pub text : with_line_feeds others ≡ rest

pub peel : (us vs : List (List ℕ)) (rest : List ℕ) → AreLone us → AreLone vs → with_line_feeds us ≡ with_line_feeds vs ++ rest → Peeled us vs rest
peel us [] rest lu lv e = record { others = us; joined = refl; text = e }
peel [] (v ∷ vs) rest lu lv e = absurd (none v (with_line_feeds vs ++ rest) (e ∙ line_assoc v vs rest))
  where
    none : (v more : List ℕ) → [] ≡ v ++ 10 ∷ more → ⊥
    none [] more e = cc
    none (b ∷ v) more e = cc
peel (u ∷ us) (v ∷ vs) rest lu lv e =
    let one : with_line_feeds (u ∷ us) ≡ u ++ 10 ∷ with_line_feeds us = append_assoc u (10 ∷ []) (with_line_feeds us) in
    let s = same_cut u v (with_line_feeds us) (with_line_feeds vs ++ rest) lu.0 lv.0 (sym one ∙ e ∙ line_assoc v vs rest) in
    let p = peel us vs rest lu.1 lv.1 s.1 in
    record { others = p.others; joined = ap (λ w. w ∷ us) s.0 ∙ ap (λ w. v ∷ w) p.joined; text = p.text }

-- whole lines, one after the other
pub feeds_join : (us vs : List (List ℕ)) → with_line_feeds (us ++ vs) ≡ with_line_feeds us ++ with_line_feeds vs
feeds_join [] vs = refl
feeds_join (u ∷ us) vs =
    ap (λ (w : List ℕ). (u ++ 10 ∷ []) ++ w) (feeds_join us vs) ∙ sym (append_assoc (u ++ 10 ∷ []) (with_line_feeds us) (with_line_feeds vs))

pub heads : (u v : List ℕ) (us vs : List (List ℕ)) → u ∷ us ≡ v ∷ vs → (u ≡ v) × (us ≡ vs)
heads u v us vs e = (ap (λ w. first w u) e, ap rest e)
  where
    first : List (List ℕ) → List ℕ → List ℕ
    first [] d = d
    first (x ∷ xs) d = x

    rest : List (List ℕ) → List (List ℕ)
    rest [] = []
    rest (x ∷ xs) = xs

-- bytes up to a line feed
pub lone_more : (bs : List ℕ) (i : ℕ) → i < length bs → line_feeds (take i bs) ≡ 0 → (get_or bs i 0 ≡ 10 → ⊥) → line_feeds (take (i + 1) bs) ≡ 0
lone_more bs i low lone other =
    ap line_feeds (take_more bs i 0 low) ∙ feeds-append (take i bs) (get_or bs i 0 ∷ []) ∙ omega (arith, lone, by_test (get_or bs i 0 == 10) refl)
  where
    by_test : (t : Bool) → (get_or bs i 0 == 10) ≡ t → line_feeds (get_or bs i 0 ∷ []) ≡ 0
    by_test true e = absurd (other (eqb-true (get_or bs i 0) 10 e))
    by_test false e = rw e refl
