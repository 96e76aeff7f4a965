-- Rows of nodes that stand in a row, and breaches of which there are none.
use Rattle.std.proofs.Common.{◌≡◌, ℕ, zero, suc, ◌+◌, ◌<◌, Bool, true, false, ◌||◌, List, [], ◌∷◌, ◌++◌, length, Some, slice_get, refl, ap, ◌∙◌, arith, length-append}
use Rattle.c_tree.specs.declared.position.Span.{Span}
use Rattle.c_types.specs.declared.rules.Breach.{Breach}
use Rattle.c_types.specs.Breaches.{listed, breach_if}

-- these stand in that row from n on
abbrev pub StandsAt : {A : Type 0} → List A → ℕ → List A → Type 0
StandsAt row n xs = (i : ℕ) → i < length xs → slice_get row (n + i) ≡ slice_get xs i

pub stands_first : {A : Type 0} (row : List A) (n : ℕ) (x : A) (xs : List A) → StandsAt row n (x ∷ xs) → slice_get row n ≡ Some x
stands_first row n x xs h = rw (← zero_more n) (h 0 (omega arith))
  where
    zero_more : (n : ℕ) → n + 0 ≡ n
    zero_more n = omega arith

pub stands_rest : {A : Type 0} (row : List A) (n : ℕ) (x : A) (xs : List A) → StandsAt row n (x ∷ xs) → StandsAt row (n + 1) xs
stands_rest row n x xs h i lt = let e : n + 1 + i ≡ n + suc i = omega arith in rw e (h (suc i) (omega arith))

pub slice_get-front : {A : Type 0} (xs ys : List A) (i : ℕ) → i < length xs → slice_get (xs ++ ys) i ≡ slice_get xs i
slice_get-front [] ys i lt = absurd (omega arith)
slice_get-front (x ∷ xs) ys zero lt = refl
slice_get-front (x ∷ xs) ys (suc i) lt = slice_get-front xs ys i (omega arith)

slice_get-behind : {A : Type 0} (xs ys : List A) (i : ℕ) → slice_get (xs ++ ys) (length xs + i) ≡ slice_get ys i
slice_get-behind [] ys i = let e : 0 + i ≡ i = omega arith in ap (slice_get ys) e
slice_get-behind (x ∷ xs) ys i = let e : suc (length xs) + i ≡ suc (length xs + i) = omega arith in ap (slice_get (x ∷ xs ++ ys)) e ∙ slice_get-behind xs ys i

pub stands_front : {A : Type 0} (row : List A) (n : ℕ) (xs ys : List A) → StandsAt row n (xs ++ ys) → StandsAt row n xs
stands_front row n xs ys h i lt = h i (omega (arith, length-append xs ys)) ∙ slice_get-front xs ys i lt

pub stands_behind : {A : Type 0} (row : List A) (n m : ℕ) (xs ys : List A) → length xs ≡ m → StandsAt row n (xs ++ ys) → StandsAt row (n + m) ys
stands_behind row n m xs ys long h i lt =
    let e : n + m + i ≡ n + (length xs + i) = omega arith in
    rw e (h (length xs + i) (omega (arith, length-append xs ys)) ∙ slice_get-behind xs ys i)

pub stands_self : {A : Type 0} (xs : List A) → StandsAt xs 0 xs
stands_self xs i lt = let e : 0 + i ≡ i = omega arith in ap (slice_get xs) e

pub slice_get_pushed : {A : Type 0} (xs : List A) (x : A) → slice_get (xs ++ x ∷ []) (length xs) ≡ Some x
slice_get_pushed [] x = refl
slice_get_pushed (y ∷ xs) x = slice_get_pushed xs x

-- No breach

pub no_breach : (b : Bool) (at : Span) (r : ℕ) → breach_if listed b at r ≡ [] → b ≡ false
no_breach false at r e = refl
no_breach true at r e = cc

pub both_none : (xs ys : List Breach) → xs ++ ys ≡ [] → (xs ≡ []) × (ys ≡ [])
both_none [] ys e = (refl, e)
both_none (x ∷ xs) ys e = cc

-- none here, and none in what follows
pub none_here : (b : Bool) (at : Span) (r : ℕ) (ys : List Breach) → breach_if listed b at r ++ ys ≡ [] → (b ≡ false) × (ys ≡ [])
none_here false at r ys e = (refl, e)
none_here true at r ys e = cc

pub neither : (a b : Bool) → (a || b) ≡ false → (a ≡ false) × (b ≡ false)
neither false b e = (refl, e)
neither true b e = cc
