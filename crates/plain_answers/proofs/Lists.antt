-- Lists by their places.
use Rattle.std.proofs.Common.{◌≡◌, ℕ, zero, suc, ◌+◌, ◌<◌, List, [], ◌∷◌, ◌++◌, Some, inl, inr, refl, sym, ap, ◌∙◌, subst, arith, length, get_or, map, slice_get, length-append}
use Rattle.std.specs.List.{Contains, AllByRecursion}
use Rattle.std.specs.List.Sorted.{IsStrictlySortedBy}
use Rattle.std.specs.Cmp.{IsTotalOrder, tied_itself}
use Rattle.std.specs.declared.cmp.Ordering.{Ordering}
use Rattle.std.specs.declared.cmp.Ordering.TheVariants.{Less, Equal}
use Rattle.std.proofs.lemmas.Bool.{cases_lt}
use Rattle.std.proofs.lemmas.Option.{slice_get_within, get_or_from_slice_get, slice_get-get_or}

pub contains_at : {X : Type 0} (xs : List X) (n : ℕ) (x : X) → slice_get xs n ≡ Some x → Contains xs x
contains_at xs n x at = (n, slice_get_within xs n x at, get_or_from_slice_get xs n x x at)

pub at_contains : {X : Type 0} (xs : List X) (x : X) → Contains xs x → (n : ℕ) × (slice_get xs n ≡ Some x)
at_contains xs x there = (there.0, slice_get-get_or xs there.0 x there.1 ∙ ap Some there.2)

pub none_contained : {X : Type 0} (xs : List X) (x : X) → xs ≡ [] → Contains xs x → ⊥
none_contained xs x e there = let lt = there.1 in let n : length xs ≡ 0 = ap length e in omega arith

pub none_at : {X : Type 0} (xs : List X) (n : ℕ) (x : X) → xs ≡ [] → slice_get xs n ≡ Some x → ⊥
none_at xs n x e at = none_contained xs x e (contains_at xs n x at)

-- one of two lists of one length has an element where the other has
pub other_at : {X Y : Type 0} (xs : List X) (ys : List Y) (n : ℕ) (x : X) → length ys ≡ length xs → slice_get xs n ≡ Some x → (y : Y) × (slice_get ys n ≡ Some y)
other_at [] ys n x e at = cc
other_at (z ∷ xs) [] n x e at = absurd (omega arith)
other_at (z ∷ xs) (y ∷ ys) zero x e at = (y, refl)
other_at (z ∷ xs) (y ∷ ys) (suc n) x e at = other_at xs ys n x (omega arith) at

pub map_is : {X Y : Type 0} (f : X → Y) (xs : List X) (ys : List Y) → length xs ≡ length ys → ((n : ℕ) (x : X) (y : Y) → slice_get xs n ≡ Some x → slice_get ys n ≡ Some y → f x ≡ y) → map f xs ≡ ys
map_is f [] [] e h = refl
map_is f [] (y ∷ ys) e h = absurd (omega arith)
map_is f (x ∷ xs) [] e h = absurd (omega arith)
map_is f (x ∷ xs) (y ∷ ys) e h = ap (λ z. z ∷ map f xs) (h 0 x y refl refl) ∙ ap (λ l. y ∷ l) (map_is f xs ys (omega arith) (λ n u v a b. h (suc n) u v a b))

pub map_at : {X Y : Type 0} (f : X → Y) (xs : List X) (n : ℕ) (x : X) → slice_get xs n ≡ Some x → slice_get (map f xs) n ≡ Some (f x)
map_at f [] n x e = cc
map_at f (y ∷ xs) zero x e = ap (λ z. Some (f z)) (one y x e)
  where
    one : {X : Type 0} (a b : X) → Some a ≡ Some b → a ≡ b
    one a b e = cc
map_at f (y ∷ xs) (suc n) x e = map_at f xs n x e

-- empty lists one after another
pub empty_more : {X : Type 0} (t : List (List X)) (e : List X) → e ≡ [] → ((h : ℕ) → get_or t h [] ≡ []) → (h : ℕ) → get_or (t ++ e ∷ []) h [] ≡ []
empty_more [] e ee all zero = ee
empty_more [] e ee all (suc h) = refl
empty_more (x ∷ t) e ee all zero = all 0
empty_more (x ∷ t) e ee all (suc h) = empty_more t e ee (λ k. all (suc k)) h

pub length_more : {X : Type 0} (new old : List X) (x : X) (n : ℕ) → new ≡ old ++ x ∷ [] → length old ≡ n → length new ≡ n + 1
length_more new old x n is size = let a = ap length is in let b = length-append old (x ∷ []) in omega arith

-- lists in strict order

pub sorted_none : {K : Type 0} (R : K → K → Ordering) → IsStrictlySortedBy R []
unfolding IsStrictlySortedBy
sorted_none R = tt

all_at : {K : Type 0} (P : K → Type 0) (xs : List K) (n : ℕ) (x : K) → AllByRecursion P xs → slice_get xs n ≡ Some x → P x
all_at P [] n x h e = cc
all_at P (y ∷ xs) zero x h e = subst P (one y x e) h.0
  where
    one : {X : Type 0} (a b : X) → Some a ≡ Some b → a ≡ b
    one a b e = cc
all_at P (y ∷ xs) (suc n) x h e = all_at P xs n x h.1 e

pub sorted_pair : {K : Type 0} (R : K → K → Ordering) (xs : List K) (i j : ℕ) (x y : K) → IsStrictlySortedBy R xs → i < j → slice_get xs i ≡ Some x → slice_get xs j ≡ Some y → R x y ≡ Less
unfolding IsStrictlySortedBy
sorted_pair R [] i j x y s lt a b = cc
sorted_pair R (z ∷ xs) i zero x y s lt a b = absurd (omega arith)
sorted_pair R (z ∷ xs) zero (suc j) x y s lt a b = subst (λ k. R k y ≡ Less) (one z x a) (all_at (λ k. R z k ≡ Less) xs j y s.0 b)
  where
    one : {X : Type 0} (a b : X) → Some a ≡ Some b → a ≡ b
    one a b e = cc
sorted_pair R (z ∷ xs) (suc i) (suc j) x y s lt a b = sorted_pair R xs i j x y s.1 (omega arith) a b

unlike : {K : Type 0} (R : K → K → Ordering) (o : IsTotalOrder R) (x : K) → R x x ≡ Less → ⊥
unlike R o x e = let n : Less ≡ Equal = sym e ∙ tied_itself o x in cc

-- in strict order an element stands in one place
pub sorted_apart : {K : Type 0} (R : K → K → Ordering) (o : IsTotalOrder R) (xs : List K) (i j : ℕ) (x : K) → IsStrictlySortedBy R xs → slice_get xs i ≡ Some x → slice_get xs j ≡ Some x → i ≡ j
sorted_apart R o xs i j x s a b = elim (cases_lt i j) [
  | inl lt ↦ absurd (unlike R o x (sorted_pair R xs i j x x s lt a b))
  | inr le ↦ elim (cases_lt j i) [
    | inl lt ↦ absurd (unlike R o x (sorted_pair R xs j i x x s lt b a))
    | inr ge ↦ omega arith
  ]
]
