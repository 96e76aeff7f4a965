-- A list of names that is seen through a function.
use Rattle.std.proofs.Common.{◌≡◌, ℕ, ◌+◌, Bool, true, false, not, ◌||◌, List, [], ◌∷◌, ◌++◌, map, length, position, Some, None, nat_lt, cond, if◌then◌else◌, bytes_eq, refl, sym, ap, ap₂, ◌∙◌, arith}
use Rattle.std.specs.List.{list_any, position_or_len}
use Rattle.std.proofs.lemmas.List.{map-append, length-map}
use Rattle.std.proofs.lemmas.List.Sums.{prefix_len-le-length}
use Rattle.c_types.specs.Names.{with_name}

pub list_any-map : {A B : Type 0} (p : B → Bool) (f : A → B) (xs : List A) → list_any p (map f xs) ≡ list_any (λ x. p (f x)) xs
list_any-map p f [] = refl
list_any-map p f (x ∷ xs) = ap (λ b. p (f x) || b) (list_any-map p f xs)

pub position_or_len-map : {A B : Type 0} (p : B → Bool) (f : A → B) (xs : List A) → position_or_len p (map f xs) ≡ position_or_len (λ x. p (f x)) xs
position_or_len-map p f [] = refl
position_or_len-map p f (x ∷ xs) = ap (λ n. cond (not (p (f x))) (1 + n) 0) (position_or_len-map p f xs)

pub position-map : {A B : Type 0} (p : B → Bool) (f : A → B) (xs : List A) → position p (map f xs) ≡ position (λ x. p (f x)) xs
position-map p f xs = ap₂ (λ n m. cond (nat_lt n m) (Some n) None) (position_or_len-map p f xs) (length-map xs f)

with_chosen : {A : Type 0} (f : A → List ℕ) (ks : List A) (k : A) (b : Bool)
    → map f (if b then ks else ks ++ k ∷ []) ≡ (if b then map f ks else map f ks ++ f k ∷ [])
with_chosen f ks k true = refl
with_chosen f ks k false = map-append f ks (k ∷ [])

pub with_name-map : {A : Type 0} (f : A → List ℕ) (ks : List A) (k : A)
    → map f (if list_any (λ y. bytes_eq (f k) (f y)) ks then ks else ks ++ k ∷ []) ≡ with_name (map f ks) (f k)
unfolding with_name
with_name-map f ks k =
    with_chosen f ks k (list_any (λ y. bytes_eq (f k) (f y)) ks)
    ∙ ap (λ b. if b then map f ks else map f ks ++ f k ∷ []) (sym (list_any-map (bytes_eq (f k)) f ks))

-- a name that has no number
pub position_or_len-none : {A : Type 0} (p : A → Bool) (xs : List A) → position p xs ≡ None → length xs ≡ position_or_len p xs
position_or_len-none p xs h = let most = prefix_len-le-length (λ x. not (p x)) xs in grind (arith, most, h)
