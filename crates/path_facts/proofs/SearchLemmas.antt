-- Walks in depth.
use Rattle.std.proofs.Common.{◌≡◌, ℕ, zero, suc, ◌+◌, ◌-◌, ◌<◌, Bool, true, false, List, [], ◌∷◌, ◌++◌, length, get_or, set, replicate, reverse, ◌∙◌, refl, ap, inl, inr, arith, get_or-set_other}
use Rattle.std.proofs.lemmas.Bool.{cases_eq, both_ways}
use Rattle.std.proofs.lemmas.List.{length-reverse, get_or-reverse}
use Rattle.std.proofs.lemmas.List.Elements.{Contains-append_left, Contains-push}
use Rattle.std.specs.List.{All, Contains}

-- a place is put at the end of the order
pub contains_placed : (placed : List Bool) (order : List ℕ) (p : ℕ) → ((q : ℕ) → get_or placed q false ≡ true → Contains order q)
    → (q : ℕ) → get_or (set placed p true) q false ≡ true → Contains (order ++ p ∷ []) q
contains_placed placed order p stands q is =
    elim (cases_eq q p) [
      | inl here ↦ rw here (Contains-push order p)
      | inr other ↦ Contains-append_left order (p ∷ []) q (stands q (rw (get_or-set_other placed p q true false other) at is))
    ]

pub contains_past : (order : List ℕ) (p : ℕ) → ((q : ℕ) → q < p → Contains order q) → (q : ℕ) → q < p + 1 → Contains (order ++ p ∷ []) q
contains_past order p passed q below =
    elim (cases_eq q p) [
      | inl here ↦ rw here (Contains-push order p)
      | inr other ↦ Contains-append_left order (p ∷ []) q (passed q (omega arith))
    ]

pub contains_here : (order : List ℕ) (p : ℕ) → ((q : ℕ) → q < p → Contains order q) → Contains order p → (q : ℕ) → q < p + 1 → Contains order q
contains_here order p passed stands q below =
    elim (cases_eq q p) [
      | inl here ↦ rw here stands
      | inr other ↦ passed q (omega arith)
    ]

pub Contains-reverse : (xs : List ℕ) (x : ℕ) → Contains xs x → Contains (reverse xs) x
Contains-reverse xs x has =
    let k = length xs - 1 - has.0 in
    let inside : has.0 < length xs = has.1 in
    let back : length xs - 1 - k ≡ has.0 = omega arith in
    (k, omega (arith, length-reverse xs), get_or-reverse xs k x (omega arith) ∙ ap (λ i. get_or xs i x) back ∙ has.2)

pub All-reverse : (n : ℕ) (xs : List ℕ) → All (λ p. p < n) xs → All (λ p. p < n) (reverse xs)
All-reverse n xs all k d within =
    let size = length-reverse xs in
    rw (get_or-reverse xs k d (omega arith)) (all (length xs - 1 - k) d (omega arith))

pub none_placed : (placed : List Bool) (n : ℕ) (order : List ℕ) → placed ≡ replicate n false → (p : ℕ) → get_or placed p false ≡ true → Contains order p
none_placed placed n order is p placed_p =
    let never : get_or placed p false ≡ false = rw is (replicate_default n p) in
    absurd (both_ways (get_or placed p false) never placed_p)
  where
    replicate_default : (n p : ℕ) → get_or (replicate n false) p false ≡ false
    replicate_default zero p = refl
    replicate_default (suc n) zero = refl
    replicate_default (suc n) (suc p) = replicate_default n p
