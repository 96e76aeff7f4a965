-- Steps backwards.
use Rattle.std.proofs.Common.{◌≡◌, ℕ, zero, suc, ◌+◌, ◌<◌, ◌≤◌, ◌⊎◌, inl, inr, ◌↔◌, List, [], ◌∷◌, ◌++◌, length, get_or, set, take, refl, sym, ap, subst, ◌∙◌, arith}
use Rattle.std.proofs.lemmas.Bool.{cases_lt, cases_eq}
use Rattle.std.proofs.lemmas.List.{get_or_past, length-set, get_or-set_same, get_or-set_other}
use Rattle.std.proofs.lemmas.List.Elements.{Contains-push, Contains-push_cases, Contains-append_left}
use Rattle.std.specs.List.{Contains}
use Rattle.owner_vars.specs.Tables.{listed}
use Rattle.owner_vars.proofs.Lists.{length-listed, get_or-listed}
use Rattle.recursion_groups.proofs.CallLemmas.{take_old, take_new, take_cases}
use Rattle.annotate.specs.Reach.{Steps, AreWithin}
use Rattle.annotate.specs.Rings.{AreBackwards, AddsBack}

nothing : (q : ℕ) → Contains {X = ℕ} [] q → ⊥
nothing q c = omega (arith, c.1)

steps_from : (g : List (List ℕ)) (p q : ℕ) → Steps g p q → p < length g
steps_from g p q h = elim (cases_lt p (length g)) [ inl lt ↦ lt | inr past ↦ absurd (nothing q (subst (λ (xs : List ℕ). Contains xs q) (get_or_past g p [] past) h)) ]

pub adds_none : (old : List (List ℕ)) (qs : List ℕ) (from : ℕ) → AddsBack old (take 0 qs) from old
adds_none old qs from = record { count = refl; each = λ q s. ((λ h. inl h), (λ h. elim h [ inl k ↦ k | inr k ↦ absurd (nothing q k.1) ])) }

module _ (old mid new : List (List ℕ)) (qs : List ℕ) (from i x : ℕ) (lt : i < length qs) (is : x ≡ get_or qs i x) (so_far : AddsBack old (take i qs) from mid)
    (small : x < length mid) (made : new ≡ set mid x (get_or mid x [] ++ from ∷ [])) where
  same : (q : ℕ) → q ≡ x → get_or new q [] ≡ get_or mid q [] ++ from ∷ []
  same q e =
      ap (λ xs. get_or xs q []) made ∙ ap (λ k. get_or (set mid x (get_or mid x [] ++ from ∷ [])) k []) e ∙ get_or-set_same mid x (get_or mid x [] ++ from ∷ []) [] small
      ∙ ap (λ k. get_or mid k [] ++ from ∷ []) (sym e)

  other : (q : ℕ) → (q ≡ x → ⊥) → get_or new q [] ≡ get_or mid q []
  other q n = ap (λ xs. get_or xs q []) made ∙ get_or-set_other mid x q (get_or mid x [] ++ from ∷ []) [] n

  to : (q s : ℕ) → Steps mid q s ⊎ ((from ≡ s) × (q ≡ x)) → Steps old q s ⊎ ((from ≡ s) × Contains (take (i + 1) qs) q)
  to q s (inl h) = elim ((so_far.each q s).0 h) [ inl k ↦ inl k | inr k ↦ inr (k.0, take_old qs i x lt is q k.1) ]
  to q s (inr h) = inr (h.0, subst (λ k. Contains (take (i + 1) qs) k) (sym h.1) (take_new qs i x lt is))

  there : (q s : ℕ) → Steps new q s → Steps mid q s ⊎ ((from ≡ s) × (q ≡ x))
  there q s h = elim (cases_eq q x) [
    | inl e ↦ elim (Contains-push_cases (get_or mid q []) from s (subst (λ xs. Contains xs s) (same q e) h)) [ inl k ↦ inl k | inr k ↦ inr (k, e) ]
    | inr n ↦ inl (subst (λ xs. Contains xs s) (other q n) h)
  ]

  kept : (q s : ℕ) → Steps mid q s → Steps new q s
  kept q s h = elim (cases_eq q x) [
    | inl e ↦ subst (λ xs. Contains xs s) (sym (same q e)) (Contains-append_left (get_or mid q []) (from ∷ []) s h)
    | inr n ↦ subst (λ xs. Contains xs s) (sym (other q n)) h
  ]

  added : (q s : ℕ) → from ≡ s → q ≡ x → Steps new q s
  added q s e k = subst (λ xs. Contains xs s) (sym (same q k)) (subst (λ y. Contains (get_or mid q [] ++ from ∷ []) y) e (Contains-push (get_or mid q []) from))

  back : (q s : ℕ) → Steps old q s ⊎ ((from ≡ s) × Contains (take (i + 1) qs) q) → Steps new q s
  back q s (inl h) = kept q s ((so_far.each q s).1 (inl h))
  back q s (inr h) = elim (take_cases qs i x lt is q h.1) [
    | inl k ↦ kept q s ((so_far.each q s).1 (inr (h.0, k)))
    | inr k ↦ added q s h.0 (sym k)
  ]

  pub adds_one : AddsBack old (take (i + 1) qs) from new
  adds_one = record {
    count = ap length made ∙ length-set mid x (get_or mid x [] ++ from ∷ []) ∙ so_far.count;
    each = λ q s. ((λ h. to q s (there q s h)), back q s);
  }

-- The steps from the first numbers

pub record AreBackTo (lists : List (List ℕ)) (from : ℕ) (back : List (List ℕ)) : Type 0 where
  pub count : length back ≡ length lists
  pub each : (q s : ℕ) → Steps back q s ↔ ((s < from) × Steps lists s q)

pub back_none : (lists back : List (List ℕ)) (n : ℕ) → back ≡ listed n (λ k. []) → n ≡ length lists → AreBackTo lists 0 back
back_none lists back n made count = record {
  count = ap length made ∙ length-listed {X = List ℕ} n (λ k. []) ∙ count;
  each = λ q s. ((λ h. absurd (none q s (subst (λ xs. Contains (get_or xs q []) s) made h))), (λ h. absurd (omega (arith, h.0))));
}
  where
    none : (q s : ℕ) → Contains (get_or (listed n (λ (k : ℕ). [])) q []) s → ⊥
    none q s h = elim (cases_lt q n) [
      | inl lt ↦ nothing s (subst (λ (xs : List ℕ). Contains xs s) (get_or-listed n q (λ (k : ℕ). []) [] lt) h)
      | inr le ↦ nothing s (subst (λ (xs : List ℕ). Contains xs s) (get_or_past (listed n (λ (k : ℕ). [])) q [] (let e = length-listed {X = List ℕ} n (λ (k : ℕ). []) in omega (arith, e, le))) h)
    ]

pub back_one : (lists old new : List (List ℕ)) (from : ℕ) → AreBackTo lists from old → AddsBack old (get_or lists from []) from new → AreBackTo lists (from + 1) new
back_one lists old new from h a = record {
  count = a.count ∙ h.count;
  each = λ q s. (to q s, back q s);
}
  where
    to : (q s : ℕ) → Steps new q s → (s < from + 1) × Steps lists s q
    to q s k = elim ((a.each q s).0 k) [
      | inl b ↦ let c = (h.each q s).0 b in (omega (arith, c.0), c.1)
      | inr b ↦ (omega (arith, b.0), subst (λ p. Steps lists p q) b.0 b.1)
    ]

    back : (q s : ℕ) → (s < from + 1) × Steps lists s q → Steps new q s
    back q s k = elim (cases_lt s from) [
      | inl lt ↦ (a.each q s).1 (inl ((h.each q s).1 (lt, k.1)))
      | inr le ↦ let e : from ≡ s = omega (arith, le, k.0) in (a.each q s).1 (inr (e, subst (λ p. Steps lists p q) (sym e) k.1))
    ]

pub back_all : (lists back : List (List ℕ)) (from : ℕ) → length lists ≤ from → AreBackTo lists from back → AreBackwards lists back
back_all lists back from le h = record {
  count = h.count;
  each = λ p q. ((λ k. ((h.each q p).0 k).1), (λ k. (h.each q p).1 (let lt = steps_from lists p q k in omega (arith, lt, le), k)));
}

pub back_within : (lists back : List (List ℕ)) → AreBackwards lists back → AreWithin back
back_within lists back h q p k = let lt = steps_from lists p q ((h.each p q).0 k) in omega (arith, lt, h.count)
