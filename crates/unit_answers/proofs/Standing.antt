-- What stands at a site, by ranges of numbers.
use Rattle.std.proofs.Common.{◌≡◌, ℕ, zero, suc, ◌+◌, ◌-◌, ◌<◌, ◌≤◌, ◌⊎◌, inl, inr, Bool, true, false, cond, ◌&&◌, List, [], ◌++◌, Option, Some, None, refl, sym, ap, ◌∙◌, arith}
use Rattle.std.specs.Prelude.{nat_eq, nat_le, nat_lt}
use Rattle.std.specs.List.{range_with_len}
use Rattle.std.proofs.lemmas.List.{append-nil}
use Rattle.std.proofs.lemmas.Bool.{cases_lt, eq-eqb, ne_eqb, le-leb, lt-ltb, lt-leb}
use Rattle.zo_core.specs.Literals.{Literal}
use Rattle.verdict_meaning.specs.Systems.{System, callee, pi_numbers, sigma_numbers}
use Rattle.verdict_meaning.specs.Derivations.{Carried, paired, at_site, carried_number}
use Rattle.verdict_meaning.specs.Closures.{StandsFor}
use Rattle.unit_answers.specs.declared.layouts.Call.{Call}
use Rattle.unit_answers.specs.Layouts.{numbers_in, IsCallAt, carried_var, StandsAt}
use Rattle.unit_answers.proofs.Carrying.{carried_cases, OfInterface}

on : {X : Type 0} (b : Bool) (x y : X) → b ≡ true → cond b x y ≡ x
on true x y e = refl
on false x y e = cc

off : {X : Type 0} (b : Bool) (x y : X) → b ≡ false → cond b x y ≡ y
off true x y e = cc
off false x y e = refl

abbrev ranges : ℕ → ℕ → ℕ → List Carried
ranges a b k = paired (range_with_len a k) (range_with_len b k)

-- a number of the first range has the one in its place in the second
in_range : (ps : List Carried) (a b k i : ℕ) → i < k → carried_number (ranges a b k ++ ps) (a + i) ≡ Some (b + i)
in_range ps a b zero i lt = absurd (omega arith)
in_range ps a b (suc k) zero lt =
    let here : nat_eq a (a + 0) ≡ true = eq-eqb a (a + 0) (omega arith) in
    let at : b ≡ b + 0 = omega arith in
    on (nat_eq a (a + 0)) (Some b) (carried_number (ranges (a + 1) (b + 1) k ++ ps) (a + 0)) here ∙ ap Some at
in_range ps a b (suc k) (suc i) lt =
    let ne : nat_eq a (a + suc i) ≡ false = ne_eqb a (a + suc i) (omega arith) in
    let from : a + suc i ≡ (a + 1) + i = omega arith in
    let to : (b + 1) + i ≡ b + suc i = omega arith in
    off (nat_eq a (a + suc i)) (Some b) (carried_number (ranges (a + 1) (b + 1) k ++ ps) (a + suc i)) ne
    ∙ ap (carried_number (ranges (a + 1) (b + 1) k ++ ps)) from ∙ in_range ps (a + 1) (b + 1) k i (omega arith) ∙ ap Some to

-- one outside it has what it has in the rest
out_of_range : (ps : List Carried) (a b k v : ℕ) → (v < a) ⊎ (a + k ≤ v) → carried_number (ranges a b k ++ ps) v ≡ carried_number ps v
out_of_range ps a b zero v out = refl
out_of_range ps a b (suc k) v out =
    let ne : nat_eq a v ≡ false = ne_eqb a v (elim out [ inl h ↦ (λ e. omega arith) | inr h ↦ (λ e. omega arith) ]) in
    let next : (v < a + 1) ⊎ ((a + 1) + k ≤ v) = elim out [ inl h ↦ inl (omega arith) | inr h ↦ inr (omega arith) ] in
    off (nat_eq a v) (Some b) (carried_number (ranges (a + 1) (b + 1) k ++ ps) v) ne ∙ out_of_range ps (a + 1) (b + 1) k v next

module _ (s : System) (g site : ℕ) (c : Call) (is : IsCallAt s g site c) where
  abbrev interface_numbers : List Carried
  interface_numbers = paired (numbers_in c.there) (numbers_in c.here)

  at_site_is : at_site s g site ≡ ranges 1 1 s.fields ++ interface_numbers
  at_site_is =
      let there : pi_numbers s (callee s g site).group (callee s g site).proc ≡ numbers_in c.there =
      ap (λ k. pi_numbers s k.group k.proc) (sym is.callee) ∙ sym is.there in
      ap (λ (ns : List ℕ). ranges 1 1 s.fields ++ paired ns (sigma_numbers s g site)) there
      ∙ ap (λ (ns : List ℕ). ranges 1 1 s.fields ++ paired (numbers_in c.there) ns) (sym is.here)

  numbers_are : interface_numbers ≡ ranges c.there.first c.here.first c.there.count ++ []
  numbers_are =
      ap (λ n. paired (numbers_in c.there) (range_with_len c.here.first n)) (sym is.size) ∙ sym (append-nil (ranges c.there.first c.here.first c.there.count))

  field_is : (v : ℕ) → 0 < v → v ≤ s.fields → carried_number (at_site s g site) v ≡ Some v
  field_is v low high =
      let e : v ≡ 1 + (v - 1) = omega arith in
      ap (λ (ps : List Carried). carried_number ps v) at_site_is ∙ ap (carried_number (ranges 1 1 s.fields ++ interface_numbers)) e
      ∙ in_range interface_numbers 1 1 s.fields (v - 1) (omega arith) ∙ ap Some (sym e)

  past_fields : (v : ℕ) → (v < 1) ⊎ (1 + s.fields ≤ v) → carried_number (at_site s g site) v ≡ carried_number (ranges c.there.first c.here.first c.there.count ++ []) v
  past_fields v out =
      ap (λ (ps : List Carried). carried_number ps v) at_site_is ∙ out_of_range interface_numbers 1 1 s.fields v out ∙ ap (λ (ps : List Carried). carried_number ps v) numbers_are

  interface_is : (v w : ℕ) → OfInterface c v w → carried_number (at_site s g site) v ≡ Some w
  interface_is v w h =
      let first = is.there_first in
      let low = h.first in
      let e : v ≡ c.there.first + (v - c.there.first) = omega arith in
      past_fields v (inr (omega arith)) ∙ ap (carried_number (ranges c.there.first c.here.first c.there.count ++ [])) e
      ∙ in_range [] c.there.first c.here.first c.there.count (v - c.there.first) h.last ∙ ap Some h.is

  pub number_is : (v w : ℕ) → 0 < v → carried_var s.fields c v ≡ Some w → carried_number (at_site s g site) v ≡ Some w
  number_is v w low e = elim (carried_cases s.fields c v w e) [
    | inl h ↦ field_is v low h.0 ∙ ap Some h.1
    | inr h ↦ interface_is v w h
  ]

  none_there : (v w : ℕ) → (v < 1) ⊎ (1 + s.fields ≤ v) → (v < c.there.first) ⊎ (c.there.first + c.there.count ≤ v) → carried_number (at_site s g site) v ≡ Some w → ⊥
  none_there v w out beyond e =
      let no : carried_number (at_site s g site) v ≡ None = past_fields v out ∙ out_of_range [] c.there.first c.here.first c.there.count v beyond in
      cc

  abbrev rest : ℕ → Option ℕ
  rest u = cond (nat_le c.there.first u && nat_lt (u - c.there.first) c.there.count) (Some (c.here.first + (u - c.there.first))) None

  pub var_is : (v w : ℕ) → carried_number (at_site s g site) v ≡ Some w → carried_var s.fields c v ≡ Some w
  var_is v w e = elim (cases_lt v 1) [
    | inl zero_ ↦ absurd (none_there v w (inl zero_) (inl (let first = is.there_first in omega arith)) e)
    | inr low ↦ elim (cases_lt v (s.fields + 1)) [
      | inl high ↦
          on (nat_le v s.fields) (Some v) (rest v) (le-leb v s.fields (omega arith)) ∙ sym (field_is v low (omega arith)) ∙ e
      | inr past ↦ elim (cases_lt v c.there.first) [
        | inl before ↦ absurd (none_there v w (inr (omega arith)) (inl before) e)
        | inr from ↦ elim (cases_lt v (c.there.first + c.there.count)) [
          | inr after ↦ absurd (none_there v w (inr (omega arith)) (inr after) e)
          | inl inside ↦
              let h : OfInterface c v (c.here.first + (v - c.there.first)) = record { first = from; last = omega arith; is = refl } in
              let both : (nat_le c.there.first v && nat_lt (v - c.there.first) c.there.count) ≡ true =
              and_true (nat_le c.there.first v) (nat_lt (v - c.there.first) c.there.count) (le-leb c.there.first v from) (lt-ltb (v - c.there.first) c.there.count (omega arith)) in
              off (nat_le v s.fields) (Some v) (rest v) (lt-leb v s.fields (omega arith))
              ∙ on (nat_le c.there.first v && nat_lt (v - c.there.first) c.there.count) (Some (c.here.first + (v - c.there.first))) None both
              ∙ sym (interface_is v (c.here.first + (v - c.there.first)) h) ∙ e
        ]
      ]
    ]
  ]
    where
      and_true : (a b : Bool) → a ≡ true → b ≡ true → (a && b) ≡ true
      and_true true b p q = q
      and_true false b p q = cc

  pub stands_for : (m l : Literal) → 0 < m.var → StandsAt s.fields c m l → StandsFor s g site l m
  stands_for m l low h = record { unknown = number_is m.var l.var low h.var; sign = h.sign }

  pub stands_at : (m l : Literal) → StandsFor s g site l m → StandsAt s.fields c m l
  stands_at m l h = record { var = var_is m.var l.var h.unknown; sign = h.sign }
