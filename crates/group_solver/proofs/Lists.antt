-- Lists by numbers.
use Rattle.std.proofs.Common.{◌≡◌, ℕ, zero, suc, ◌+◌, ◌<◌, ◌≤◌, ◌⊎◌, inl, inr, List, [], ◌∷◌, ◌++◌, length, map, take, drop, Some, slice_get, refl, ap, subst, ◌∙◌, arith}
use Rattle.std.specs.List.{Contains, All}
use Rattle.std.proofs.lemmas.List.{drop_more, take_more}
use Rattle.std.proofs.lemmas.Option.{slice_get-get_or, slice_get_within, get_or_from_slice_get}
use Rattle.zo_core.specs.Literals.{Literal}
use Rattle.zo_solver.specs.Clauses.{numbered, EachLiteral, EachClause, AreWithin}
use Rattle.zo_solver.specs.Trail.{IsClauseOver}

pub same_some : {X : Type 0} (x y : X) → Some x ≡ Some y → x ≡ y
same_some x y e = cc

pub get_old : {X : Type 0} (xs ys : List X) (k : ℕ) → k < length xs → slice_get (xs ++ ys) k ≡ slice_get xs k
get_old [] ys k lt = absurd (omega arith)
get_old (x ∷ xs) ys zero lt = refl
get_old (x ∷ xs) ys (suc k) lt = get_old xs ys k (omega arith)

-- what stands in front stays
pub get_kept : {X : Type 0} (xs ys : List X) (k : ℕ) (x : X) → slice_get xs k ≡ Some x → slice_get (xs ++ ys) k ≡ Some x
get_kept xs ys k x e = get_old xs ys k (slice_get_within xs k x e) ∙ e

pub get_next : {X : Type 0} (xs : List X) (x : X) → slice_get (xs ++ x ∷ []) (length xs) ≡ Some x
get_next [] x = refl
get_next (y ∷ xs) x = get_next xs x

-- an element after a push is one from before or the new one
pub get_push_cases : {X : Type 0} (xs : List X) (y : X) (k : ℕ) (x : X) → slice_get (xs ++ y ∷ []) k ≡ Some x → (slice_get xs k ≡ Some x) ⊎ ((k ≡ length xs) × (y ≡ x))
get_push_cases [] y zero x e = inr (refl, same_some y x e)
get_push_cases [] y (suc k) x e = cc
get_push_cases (z ∷ xs) y zero x e = inl e
get_push_cases (z ∷ xs) y (suc k) x e = elim (get_push_cases xs y k x e) [ inl h ↦ inl h | inr h ↦ inr (ap suc h.0, h.1) ]

-- what stands behind others
pub get_behind : {X : Type 0} (xs ys : List X) (k : ℕ) → slice_get (xs ++ ys) (length xs + k) ≡ slice_get ys k
get_behind [] ys k = let e : 0 + k ≡ k = omega arith in ap (λ n. slice_get ys n) e
get_behind (x ∷ xs) ys k = let e : suc (length xs) + k ≡ suc (length xs + k) = omega arith in ap (λ n. slice_get (x ∷ (xs ++ ys)) n) e ∙ get_behind xs ys k

pub contains_at : {X : Type 0} (xs : List X) (k : ℕ) (x : X) → slice_get xs k ≡ Some x → Contains xs x
contains_at xs k x e = (k, slice_get_within xs k x e, get_or_from_slice_get xs k x x e)

pub at_contains : {X : Type 0} (xs : List X) (x : X) → Contains xs x → (k : ℕ) × (slice_get xs k ≡ Some x)
at_contains xs x h = (h.0, slice_get-get_or xs h.0 x h.1 ∙ ap Some h.2)

pub get_below : {X : Type 0} (xs : List X) (k : ℕ) → k < length xs → (x : X) × (slice_get xs k ≡ Some x)
get_below [] k lt = absurd (omega arith)
get_below (x ∷ xs) zero lt = (x, refl)
get_below (x ∷ xs) (suc k) lt = get_below xs k (omega arith)

-- an element of a list that a function made
pub get_mapped : {X Y : Type 0} (f : X → Y) (xs : List X) (k : ℕ) (y : Y) → slice_get (map f xs) k ≡ Some y → (x : X) × (slice_get xs k ≡ Some x) × (f x ≡ y)
get_mapped f [] k y e = cc
get_mapped f (x ∷ xs) zero y e = (x, refl, same_some (f x) y e)
get_mapped f (x ∷ xs) (suc k) y e = get_mapped f xs k y e

pub get_map : {X Y : Type 0} (f : X → Y) (xs : List X) (k : ℕ) (x : X) → slice_get xs k ≡ Some x → slice_get (map f xs) k ≡ Some (f x)
get_map f [] k x e = cc
get_map f (y ∷ xs) zero x e = ap (λ z. Some (f z)) (same_some y x e)
get_map f (y ∷ xs) (suc k) x e = get_map f xs k x e

pub drop_step : {X : Type 0} (xs : List X) (k : ℕ) (x : X) → slice_get xs k ≡ Some x → drop k xs ≡ x ∷ drop (k + 1) xs
drop_step xs k x at = drop_more xs k x (slice_get_within xs k x at) ∙ ap (λ y. y ∷ drop (k + 1) xs) (get_or_from_slice_get xs k x x at)

pub take_step : {X : Type 0} (xs : List X) (k : ℕ) (x : X) → slice_get xs k ≡ Some x → take (k + 1) xs ≡ take k xs ++ x ∷ []
take_step xs k x at = take_more xs k x (slice_get_within xs k x at) ∙ ap (λ y. take k xs ++ y ∷ []) (get_or_from_slice_get xs k x x at)

-- By numbers from 1

pub numbered_kept : {X : Type 0} (xs ys : List X) (n : ℕ) (x : X) → numbered xs n ≡ Some x → numbered (xs ++ ys) n ≡ Some x
numbered_kept xs ys zero x e = cc
numbered_kept xs ys (suc k) x e = get_kept xs ys k x e

pub numbered_within : {X : Type 0} (xs : List X) (n : ℕ) (x : X) → numbered xs n ≡ Some x → (0 < n) × (n ≤ length xs)
numbered_within xs zero x e = cc
numbered_within xs (suc k) x e = let lt = slice_get_within xs k x e in (omega arith, omega arith)

pub numbered_below : {X : Type 0} (xs : List X) (n : ℕ) → 0 < n → n ≤ length xs → (x : X) × (numbered xs n ≡ Some x)
numbered_below xs zero some le = absurd (omega arith)
numbered_below xs (suc k) some le = get_below xs k (omega arith)

-- Literals

pub each_all : (P : Literal → Type 0) (c : List Literal) → EachLiteral P c → All P c
each_all P [] h k d lt = absurd (omega arith)
each_all P (l ∷ c) h zero d lt = h.0
each_all P (l ∷ c) h (suc k) d lt = each_all P c h.1 k d (omega arith)

pub all_each : (P : Literal → Type 0) (c : List Literal) → All P c → EachLiteral P c
all_each P [] h = tt
all_each P (l ∷ c) h = (h 0 l (omega arith), all_each P c (λ k d lt. h (suc k) d (omega arith)))

-- Clauses

pub clause_over : (n : ℕ) (cs : List (List Literal)) (k : ℕ) (c : List Literal) → EachClause (IsClauseOver n) cs → slice_get cs k ≡ Some c → IsClauseOver n c
clause_over n [] k c h e = cc
clause_over n (d ∷ cs) zero c h e = subst (IsClauseOver n) (same_some d c e) h.0
clause_over n (d ∷ cs) (suc k) c h e = clause_over n cs k c h.1 e

pub clauses_within : (n : ℕ) (cs : List (List Literal)) → EachClause (IsClauseOver n) cs → EachClause (AreWithin n) cs
clauses_within n [] h = tt
clauses_within n (c ∷ cs) h = (h.0.1, clauses_within n cs h.1)

pub clauses_push : (P : List Literal → Type 0) (cs : List (List Literal)) (c : List Literal) → EachClause P cs → P c → EachClause P (cs ++ c ∷ [])
clauses_push P [] c h p = (p, tt)
clauses_push P (d ∷ cs) c h p = (h.0, clauses_push P cs c h.1 p)
