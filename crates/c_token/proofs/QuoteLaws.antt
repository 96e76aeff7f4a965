-- Units between quotes.
use Rattle.std.proofs.Common.{◌≡◌, ◌≢◌, ◌-◌, ◌<◌, ◌≤◌, ◌+◌, ◌==◌, ℕ, zero, suc, Bool, true, false, List, [], ◌∷◌, ◌++◌, length, take, drop, Option, Some, None, refl, sym, ap, ◌∙◌, arith}
use Rattle.std.proofs.lemmas.List.{append_assoc, length-drop}
use Rattle.c_token.specs.Bytes.{is_plain, begins_octal, escaped, IsQuoted, closed, plain, escape}
use Rattle.c_token.specs.Parts.{unit_at, after, after_escape, quoted}

value_of : Option (ℕ × ℕ) → ℕ
value_of None = 0
value_of (Some p) = p.0

len_of : Option (ℕ × ℕ) → ℕ
len_of None = 0
len_of (Some p) = p.1

same_unit : (a v m n : ℕ) → ◌≡◌ {A = Option (ℕ × ℕ)} (Some (a, m)) (Some (v, n)) → (a ≡ v) × (m ≡ n)
unfolding value_of len_of
same_unit a v m n e = (ap value_of e, ap len_of e)

-- a unit and then what follows it
pub quoted-unit : (q b : ℕ) (bs : List ℕ) (v n : ℕ) → (b == q) ≡ false → unit_at q (b ∷ bs) ≡ Some (v, n)
    → quoted q (b ∷ bs) ≡ after (v ∷ []) n (quoted q (drop n (b ∷ bs)))
quoted-unit q b [] v n never e = go (is_plain q b) refl
  where
    go : (t : Bool) → is_plain q b ≡ t → quoted q (b ∷ []) ≡ after (v ∷ []) n (quoted q (drop n (b ∷ [])))
    go true p =
        let u : ◌≡◌ {A = Option (ℕ × ℕ)} (Some (b, 1)) (Some (v, n)) = rw p at e in
        let m = (same_unit b v 1 n u).1 in
        rw (never, ← m) refl
    go false p = let u : ◌≡◌ {A = Option (ℕ × ℕ)} None (Some (v, n)) = rw p at e in cc
quoted-unit q b (c ∷ bs) v n never e = go (is_plain q b) refl (b == 92) refl (escaped c bs) refl
  where
    go : (t : Bool) → is_plain q b ≡ t → (s : Bool) → (b == 92) ≡ s → (r : Option ℕ) → escaped c bs ≡ r
        → quoted q (b ∷ c ∷ bs) ≡ after (v ∷ []) n (quoted q (drop n (b ∷ c ∷ bs)))
    go true p s k r x =
        let u : ◌≡◌ {A = Option (ℕ × ℕ)} (Some (b, 1)) (Some (v, n)) = rw p at e in
        let m = (same_unit b v 1 n u).1 in
        let w = (same_unit b v 1 n u).0 in
        rw (p, never, ← m, ← w) refl
    go false p false k r x = let u : ◌≡◌ {A = Option (ℕ × ℕ)} None (Some (v, n)) = rw (p, k) at e in cc
    go false p true k None x = let u : ◌≡◌ {A = Option (ℕ × ℕ)} None (Some (v, n)) = rw (p, k, x) at e in cc
    go false p true k (Some a) x =
        let u : ◌≡◌ {A = Option (ℕ × ℕ)} (Some (a, 2)) (Some (v, n)) = rw (p, k, x) at e in
        let m = (same_unit a v 2 n u).1 in
        let w = (same_unit a v 2 n u).0 in
        rw (p, never, k, x, ← m, ← w) refl

pub quoted-no_unit : (q b : ℕ) (bs : List ℕ) → (b == q) ≡ false → unit_at q (b ∷ bs) ≡ None → quoted q (b ∷ bs) ≡ None
quoted-no_unit q b [] never e = rw never refl
quoted-no_unit q b (c ∷ bs) never e = go (is_plain q b) refl (b == 92) refl (escaped c bs) refl
  where
    go : (t : Bool) → is_plain q b ≡ t → (s : Bool) → (b == 92) ≡ s → (r : Option ℕ) → escaped c bs ≡ r → quoted q (b ∷ c ∷ bs) ≡ None
    go true p s k r x = let u : ◌≡◌ {A = Option (ℕ × ℕ)} (Some (b, 1)) None = rw p at e in cc
    go false p false k r x = rw (p, never, k) refl
    go false p true k None x = rw (p, never, k, x) refl
    go false p true k (Some a) x = let u : ◌≡◌ {A = Option (ℕ × ℕ)} (Some (a, 2)) None = rw (p, k, x) at e in cc

pub after-after : (us vs : List ℕ) (n m k : ℕ) (r : Option (List ℕ × ℕ)) → k ≡ n + m → after us n (after vs m r) ≡ after (us ++ vs) k r
after-after us vs n m k None e = refl
after-after us vs n m k (Some p) e =
    let len : n + (m + p.1) ≡ k + p.1 = omega arith in
    rw (len, append_assoc us vs p.0) refl

-- what is read is quoted
abbrev pub IsRead : ℕ → List ℕ → Option (List ℕ × ℕ) → Type 0
IsRead q bs None = Unit {0}
IsRead q bs (Some p) = (0 < p.1) × (p.1 ≤ length bs) × IsQuoted q (take p.1 bs) p.0

octal_kept : (n : ℕ) (bs : List ℕ) → 0 < n → begins_octal (take n bs) ≡ begins_octal bs
octal_kept zero bs low = absurd (omega arith)
octal_kept (suc n) [] low = refl
octal_kept (suc n) (b ∷ bs) low = refl

escaped-take : (c n : ℕ) (bs : List ℕ) → 0 < n → escaped c (take n bs) ≡ escaped c bs
escaped-take c n bs low = rw (octal_kept n bs low) refl

read_plain : (q b : ℕ) (bs : List ℕ) (r : Option (List ℕ × ℕ)) → is_plain q b ≡ true → IsRead q bs r → IsRead q (b ∷ bs) (after (b ∷ []) 1 r)
read_plain q b bs None p h = tt
read_plain q b bs (Some x) p h =
    let n : 1 + x.1 ≡ suc x.1 = omega arith in
    rw n (omega arith, omega (arith, h.1), plain b (take x.1 bs) x.0 p h.2)

read_escape : (q b c : ℕ) (bs : List ℕ) (v : Option ℕ) (r : Option (List ℕ × ℕ)) → b ≡ 92 → escaped c bs ≡ v → IsRead q bs r
    → IsRead q (b ∷ c ∷ bs) (after_escape v r)
read_escape q b c bs None r is e h = tt
read_escape q b c bs (Some v) None is e h = tt
read_escape q b c bs (Some v) (Some x) is e h =
    let n : 2 + x.1 ≡ suc (suc x.1) = omega arith in
    rw (n, is) (omega arith, omega (arith, h.1), escape c v (take x.1 bs) x.0 (escaped-take c x.1 bs h.0 ∙ e) h.2)

read_closed : (q b : ℕ) (bs : List ℕ) → b ≡ q → IsRead q (b ∷ bs) (Some ([], 1))
read_closed q b bs is = rw is (omega arith, omega arith, closed)

pub same : (b c : ℕ) → (b == c) ≡ true → b ≡ c
same b c e = grind arith

pub quoted_read : (q : ℕ) (bs : List ℕ) → IsRead q bs (quoted q bs)
quoted_read q [] = tt
quoted_read q (b ∷ []) = go (b == q) refl
  where
    go : (t : Bool) → (b == q) ≡ t → IsRead q (b ∷ []) (quoted q (b ∷ []))
    go true e = rw e (read_closed q b [] (same b q e))
    go false e = rw e tt
quoted_read q (b ∷ c ∷ bs) = go (b == q) refl (is_plain q b) refl (b == 92) refl (quoted_read q (c ∷ bs)) (quoted_read q bs)
  where
    go : (t : Bool) → (b == q) ≡ t → (p : Bool) → is_plain q b ≡ p → (s : Bool) → (b == 92) ≡ s
        → IsRead q (c ∷ bs) (quoted q (c ∷ bs)) → IsRead q bs (quoted q bs) → IsRead q (b ∷ c ∷ bs) (quoted q (b ∷ c ∷ bs))
    go true e p pe s se one two = rw e (read_closed q b (c ∷ bs) (same b q e))
    go false e true pe s se one two = rw (pe, e) (read_plain q b (c ∷ bs) (quoted q (c ∷ bs)) pe one)
    go false e false pe true se one two = rw (pe, e, se) (read_escape q b c bs (escaped c bs) (quoted q bs) (same b 92 se) refl two)
    go false e false pe false se one two = rw (pe, e, se) tt

-- what is quoted is read
octal_more : (q : ℕ) (w vs rest : List ℕ) → IsQuoted q w vs → begins_octal (w ++ rest) ≡ begins_octal w
octal_more q w vs rest closed = refl
octal_more q w vs rest (plain b bs us p h) = refl
octal_more q w vs rest (escape c v bs us e h) = refl

-- quotes are neither plain nor a backslash
pub record IsQuote (q : ℕ) : Type 0 where
  pub apart : (b : ℕ) → is_plain q b ≡ true → (b == q) ≡ false
  pub no_escape : (92 == q) ≡ false
  pub no_plain : is_plain q 92 ≡ false

pub quoted_whole : (q : ℕ) (w vs rest : List ℕ) → IsQuote q → IsQuoted q w vs → quoted q (w ++ rest) ≡ Some (vs, length w)
quoted_whole q w vs rest is closed = go rest
  where
    self : (q == q) ≡ true
    self = grind arith

    go : (more : List ℕ) → quoted q (q ∷ more) ≡ Some ([], 1)
    go [] = rw self refl
    go (x ∷ more) = rw self refl
quoted_whole q w vs rest is (plain b bs us p h) = go (bs ++ rest) (quoted_whole q bs us rest is h)
  where
    go : (more : List ℕ) → quoted q more ≡ Some (us, length bs) → quoted q (b ∷ more) ≡ Some (b ∷ us, suc (length bs))
    go [] e = cc
    go (x ∷ more) e = let n : 1 + length bs ≡ suc (length bs) = omega arith in rw (p, is.apart b p, e, n) refl
quoted_whole q w vs rest is (escape c v bs us e h) =
    let more = quoted_whole q bs us rest is h in
    let n : 2 + length bs ≡ suc (suc (length bs)) = omega arith in
    let kept : escaped c (bs ++ rest) ≡ Some v = rw (octal_more q bs us rest h) e in
    rw (is.no_plain, is.no_escape, kept, more, n) refl

-- one more unit of a string
pub one_more : (q b v n : ℕ) (bytes rest tail later items items' : List ℕ) → rest ≡ b ∷ tail → b ≢ q → unit_at q rest ≡ Some (v, n)
    → n ≤ length rest → length rest ≤ length bytes → later ≡ drop n rest → items' ≡ items ++ v ∷ []
    → quoted q bytes ≡ after items (length bytes - length rest) (quoted q rest)
    → quoted q bytes ≡ after items' (length bytes - length later) (quoted q later)
one_more q b v n bytes rest tail later items items' is apart unit fits within left more read =
    let never : (b == q) ≡ false = grind (arith, apart) in
    let unit' : unit_at q (b ∷ tail) ≡ Some (v, n) = ap (unit_at q) (sym is) ∙ unit in
    let step : quoted q rest ≡ after (v ∷ []) n (quoted q (drop n rest)) = rw is (quoted-unit q b tail v n never unit') in
    let len : length later ≡ length rest - n = ap length left ∙ length-drop n rest in
    let taken : length bytes - length later ≡ (length bytes - length rest) + n = omega arith in
    let whole : quoted q bytes ≡ after (items ++ v ∷ []) (length bytes - length later) (quoted q (drop n rest)) =
    read ∙ (ap (after items (length bytes - length rest)) step
    ∙ after-after items (v ∷ []) (length bytes - length rest) n (length bytes - length later) (quoted q (drop n rest)) taken) in
    whole ∙ (ap (λ (w : List ℕ). after w (length bytes - length later) (quoted q (drop n rest))) (sym more)
    ∙ ap (λ (w : List ℕ). after items' (length bytes - length later) (quoted q w)) (sym left))
