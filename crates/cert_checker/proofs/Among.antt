-- What is among a list that is made of others.
use Rattle.std.proofs.Common.{◌≡◌, ℕ, zero, suc, ◌+◌, ◌<◌, ◌≤◌, ◌⊎◌, inl, inr, ⊎_elim, List, [], ◌∷◌, ◌++◌, Some, refl, sym, ap, ◌∙◌, subst, arith, length, map, get_or, slice_get}
use Rattle.std.specs.List.{Contains, flat_map}
use Rattle.std.proofs.lemmas.List.Elements.{Contains-append_left, Contains-append_right, Contains-append_cases}
use Rattle.std.proofs.lemmas.Option.{slice_get_within, get_or_from_slice_get}

pub here : {X : Type 0} (x : X) (xs : List X) (y : X) → x ≡ y → Contains (x ∷ xs) y
here x xs y e = (0, omega arith, e)

pub there : {X : Type 0} (x : X) (xs : List X) (y : X) → Contains xs y → Contains (x ∷ xs) y
there x xs y h = (suc h.0, (let lt = h.1 in omega arith), h.2)

pub first_or_rest : {X : Type 0} (x : X) (xs : List X) (y : X) → Contains (x ∷ xs) y → (x ≡ y) ⊎ Contains xs y
first_or_rest x xs y (zero, lt, e) = inl e
first_or_rest x xs y (suc k, lt, e) = inr (k, omega arith, e)

pub none_there : {X : Type 0} (y : X) → Contains {X = X} [] y → ⊥
none_there y h = let lt = h.1 in omega arith

pub at_place : {X : Type 0} (xs : List X) (k : ℕ) (x : X) → slice_get xs k ≡ Some x → Contains xs x
at_place xs k x at = (k, slice_get_within xs k x at, get_or_from_slice_get xs k x x at)

pub in_map : {X Y : Type 0} (f : X → Y) (xs : List X) (x : X) → Contains xs x → Contains (map f xs) (f x)
in_map f [] x h = absurd (none_there x h)
in_map f (y ∷ ys) x h =
    ⊎_elim (λ (e : y ≡ x). here (f y) (map f ys) (f x) (ap f e)) (λ (r : Contains ys x). there (f y) (map f ys) (f x) (in_map f ys x r)) (first_or_rest y ys x h)

pub of_map : {X Y : Type 0} (f : X → Y) (xs : List X) (y : Y) → Contains (map f xs) y → (x : X) × Contains xs x × (f x ≡ y)
of_map f [] y h = absurd (none_there y h)
of_map f (x ∷ xs) y h =
    ⊎_elim (λ (e : f x ≡ y). (x, here x xs x refl, e))
    (λ (r : Contains (map f xs) y). let o = of_map f xs y r in (o.0, there x xs o.0 o.1, o.2)) (first_or_rest (f x) (map f xs) y h)

pub in_all : {X Y : Type 0} (f : X → List Y) (xs : List X) (x : X) (y : Y) → Contains xs x → Contains (f x) y → Contains (flat_map f xs) y
in_all f [] x y h i = absurd (none_there x h)
in_all f (z ∷ zs) x y h i =
    ⊎_elim (λ (e : z ≡ x). Contains-append_left (f z) (flat_map f zs) y (subst (λ w. Contains (f w) y) (sym e) i))
    (λ (r : Contains zs x). Contains-append_right (f z) (flat_map f zs) y (in_all f zs x y r i)) (first_or_rest z zs x h)

pub of_all : {X Y : Type 0} (f : X → List Y) (xs : List X) (y : Y) → Contains (flat_map f xs) y → (x : X) × Contains xs x × Contains (f x) y
of_all f [] y h = absurd (none_there y h)
of_all f (z ∷ zs) y h =
    ⊎_elim (λ (l : Contains (f z) y). (z, here z zs z refl, l))
    (λ (r : Contains (flat_map f zs) y). let o = of_all f zs y r in (o.0, there z zs o.0 o.1, o.2)) (Contains-append_cases (f z) (flat_map f zs) y h)
