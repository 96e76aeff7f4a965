-- Names in a list: where they stand, and that those that are added keep the others.
use Rattle.std.proofs.Common.{◌≡◌, ℕ, zero, suc, ◌+◌, ◌<◌, ◌≤◌, ◌⊎◌, inl, inr, Bool, true, false, List, [], ◌∷◌, ◌++◌, length, map, Option, Some, None, cond, subst, slice_get, position, option_map, bytes_eq, refl, sym, ap, ◌∙◌, arith}
use Rattle.std.specs.List.{All, position_or_len}
use Rattle.std.proofs.lemmas.Bool.{cases_Bool, false≢true, lt-ltb, or_left, or_right}
use Rattle.std.proofs.lemmas.List.{length-append}
use Rattle.std.proofs.lemmas.List.Elements.{All-nil, All-cons}
use Rattle.std.proofs.lemmas.List.Folds.{list_any-append}
use Rattle.std.proofs.lemmas.Option.{slice_get-map, slice_get_within, get_or_from_slice_get}
use Rattle.std.proofs.lemmas.Slice.Eq.{bytes_eq-Decides}
use Rattle.c_types.specs.Names.{has_name, with_name, with_names}

pub same_bytes : (xs ys : List ℕ) → bytes_eq xs ys ≡ true → xs ≡ ys
same_bytes xs ys = (bytes_eq-Decides xs ys).0

pub bytes_itself : (xs : List ℕ) → bytes_eq xs xs ≡ true
bytes_itself xs = (bytes_eq-Decides xs xs).1 refl

-- Elements by their place

pub option_map_some : {A B : Type 0} (f : A → B) (o : Option A) (y : B) → option_map f o ≡ Some y → (x : A) × (o ≡ Some x) × (f x ≡ y)
option_map_some f None y h = absurd (none_some h)
  where
    none_some : None ≡ Some y → ⊥
    none_some e = cc
option_map_some f (Some x) y h = (x, refl, cc)

-- what stands in a mapped list
pub slice_get_mapped : {A B : Type 0} (f : A → B) (xs : List A) (k : ℕ) (y : B) → slice_get (map f xs) k ≡ Some y
    → (x : A) × (slice_get xs k ≡ Some x) × (f x ≡ y)
slice_get_mapped f xs k y h = option_map_some f (slice_get xs k) y (sym (slice_get-map f xs k) ∙ h)

pub all_at : {X : Type 0} (P : X → Type 0) (xs : List X) (k : ℕ) (x : X) → All P xs → slice_get xs k ≡ Some x → P x
all_at P xs k x h e = subst P (get_or_from_slice_get xs k x x e) (h k x (slice_get_within xs k x e))

-- The place of a name

abbrev pub place : List (List ℕ) → List ℕ → ℕ
place ns x = position_or_len (bytes_eq x) ns

pub place_within : (ns : List (List ℕ)) (x : List ℕ) → has_name ns x ≡ true → place ns x < length ns
place_within [] x h = absurd (false≢true h)
place_within (n ∷ ns) x h = elim (cases_Bool (bytes_eq x n)) [
  | inl e ↦ rw e (omega arith)
  | inr e ↦ let k = place_within ns x (rw e at h) in rw e (omega (arith, k))
]

pub place_at : (ns : List (List ℕ)) (x : List ℕ) → has_name ns x ≡ true → slice_get ns (place ns x) ≡ Some x
place_at [] x h = absurd (false≢true h)
place_at (n ∷ ns) x h = elim (cases_Bool (bytes_eq x n)) [
  | inl e ↦ rw e (ap Some (sym (same_bytes x n e)))
  | inr e ↦ rw e (next (place ns x) (place_at ns x (rw e at h)))
]
  where
    next : (k : ℕ) → slice_get ns k ≡ Some x → slice_get (n ∷ ns) (1 + k) ≡ Some x
    next k g = let up : 1 + k ≡ suc k = omega arith in rw up g

pub has_from_place : (ns : List (List ℕ)) (x : List ℕ) → place ns x < length ns → has_name ns x ≡ true
has_from_place [] x h = absurd (omega arith)
has_from_place (n ∷ ns) x h = elim (cases_Bool (bytes_eq x n)) [
  | inl e ↦ rw e refl
  | inr e ↦ rw e (has_from_place ns x (omega (arith, rw e at h)))
]

-- a name that is not among the first ones stands after them
pub place_after : (ns ms : List (List ℕ)) (x : List ℕ) → has_name ns x ≡ false → length ns ≤ place (ns ++ ms) x
place_after [] ms x h = omega arith
place_after (n ∷ ns) ms x h = elim (cases_Bool (bytes_eq x n)) [
  | inl e ↦ absurd (false≢true (sym (rw e at h)))
  | inr e ↦ let k = place_after ns ms x (rw e at h) in rw e (omega (arith, k))
]

pub position_at : (ns : List (List ℕ)) (x : List ℕ) → has_name ns x ≡ true → position (bytes_eq x) ns ≡ Some (place ns x)
position_at ns x h = ap (λ b. cond b (Some (place ns x)) None) (lt-ltb (place ns x) (length ns) (place_within ns x h))

-- Names that are added

-- each name of the first list is in the second, which is no shorter
pub record Grows (ns ms : List (List ℕ)) : Type 0 where
  pub keeps : (x : List ℕ) → has_name ns x ≡ true → has_name ms x ≡ true
  pub longer : length ns ≤ length ms

pub grows_itself : (ns : List (List ℕ)) → Grows ns ns
grows_itself ns = record { keeps = λ x h. h; longer = omega arith }

pub grows_over : {ns ms ks : List (List ℕ)} → Grows ns ms → Grows ms ks → Grows ns ks
grows_over {ns} {ms} {ks} g h = record { keeps = λ x k. h.keeps x (g.keeps x k); longer = omega (arith, g.longer, h.longer) }

grows_by : (ns ms : List (List ℕ)) → Grows ns (ns ++ ms)
grows_by ns ms = record {
  keeps = λ x h. list_any-append (bytes_eq x) ns ms ∙ or_left (has_name ns x) (has_name ms x) h;
  longer = omega (arith, length-append ns ms);
}

pub grows_name : (ns : List (List ℕ)) (x : List ℕ) → Grows ns (with_name ns x)
unfolding with_name
grows_name ns x = by (has_name ns x)
  where
    by : (b : Bool) → Grows ns (cond b ns (ns ++ x ∷ []))
    by true = grows_itself ns
    by false = grows_by ns (x ∷ [])

pub named : (ns : List (List ℕ)) (x : List ℕ) → has_name (with_name ns x) x ≡ true
unfolding with_name
named ns x = elim (cases_Bool (has_name ns x)) [
  | inl e ↦ rw e e
  | inr e ↦ rw e (list_any-append (bytes_eq x) ns (x ∷ []) ∙ or_right (has_name ns x) (has_name (x ∷ []) x) (or_left (bytes_eq x x) false (bytes_itself x)))
]

pub has_here : (x : List ℕ) (xs : List (List ℕ)) → has_name (x ∷ xs) x ≡ true
has_here x xs = or_left (bytes_eq x x) (has_name xs x) (bytes_itself x)

-- a name that was there already adds none
pub name_again : (ns : List (List ℕ)) (x : List ℕ) → has_name ns x ≡ true → with_name ns x ≡ ns
unfolding with_name
name_again ns x e = rw e refl

-- one that was not stands last
pub name_new : (ns : List (List ℕ)) (x : List ℕ) → has_name ns x ≡ false → with_name ns x ≡ ns ++ x ∷ []
unfolding with_name
name_new ns x e = rw e refl

pub grows_names : (ns xs : List (List ℕ)) → Grows ns (with_names ns xs)
grows_names ns [] = grows_itself ns
grows_names ns (x ∷ xs) = grows_over (grows_name ns x) (grows_names (with_name ns x) xs)

-- each of the names that are added is there
pub names_added : {X : Type 0} (f : X → List ℕ) (target ns : List (List ℕ)) (xs : List X) → Grows (with_names ns (map f xs)) target → All (λ x. has_name target (f x) ≡ true) xs
names_added f target ns [] g = All-nil (λ x. has_name target (f x) ≡ true)
names_added f target ns (x ∷ xs) g =
    let later = with_name ns (f x) in
    All-cons (λ y. has_name target (f y) ≡ true) x xs (g.keeps (f x) ((grows_names later (map f xs)).keeps (f x) (named ns (f x)))) (names_added f target later xs g)

-- a name of the first list keeps its place
pub place_before : (ns ms : List (List ℕ)) (x : List ℕ) → has_name ns x ≡ true → place (ns ++ ms) x < length ns
place_before [] ms x h = absurd (false≢true h)
place_before (n ∷ ns) ms x h = elim (cases_Bool (bytes_eq x n)) [
  | inl e ↦ rw e (omega arith)
  | inr e ↦ let k = place_before ns ms x (rw e at h) in rw e (omega (arith, k))
]

-- an element of two lists is one of the first or of the second
pub slice_get_cases : {X : Type 0} (xs ys : List X) (k : ℕ) (x : X) → slice_get (xs ++ ys) k ≡ Some x
    → ((k < length xs) × (slice_get xs k ≡ Some x)) ⊎ ((length xs ≤ k) × ((j : ℕ) × (slice_get ys j ≡ Some x)))
slice_get_cases [] ys k x h = inr (omega arith, (k, h))
slice_get_cases (y ∷ xs) ys zero x h = inl (omega arith, h)
slice_get_cases (y ∷ xs) ys (suc k) x h = elim (slice_get_cases xs ys k x h) [
  | inl a ↦ inl (omega (arith, a.0), a.1)
  | inr a ↦ inr (omega (arith, a.0), a.1)
]
