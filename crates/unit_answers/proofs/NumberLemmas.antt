-- How the numbers of a program's unknowns lie.
use Rattle.std.proofs.Common.{◌≡◌, ℕ, zero, suc, ◌+◌, ◌<◌, ◌≤◌, ◌⊎◌, inl, inr, Bool, true, false, cond, not, List, [], ◌∷◌, ◌++◌, length, map, get_or, refl, sym, ap, subst, ◌∙◌, arith}
use Rattle.std.specs.Prelude.{nat_eq, sum_by}
use Rattle.std.specs.List.{All, Contains, filter, count_by, position_or_len, range_with_len}
use Rattle.std.proofs.lemmas.Bool.{cases_Bool, eq-eqb, eqb-true}
use Rattle.std.proofs.lemmas.List.{length-map}
use Rattle.std.proofs.lemmas.List.FromFn.{length-range_with_len}
use Rattle.std.proofs.lemmas.List.Sums.{length-filter, sum_by-cons}
use Rattle.std.proofs.lemmas.List.Elements.{filter_passes, Contains-append_cases}
use Rattle.zo_core.specs.declared.number_range.NumberRange.{NumberRange}
use Rattle.flow_graph.specs.FlowGraph.{FlowGraph}
use Rattle.flow_graph.specs.Fits.{is_in}
use Rattle.recursion_groups.specs.Calls.{Calls}
use Rattle.recursion_groups.specs.Grouping.{IsOrdered, IsGrouping}
use Rattle.owner_vars.specs.Unknowns.{Unknown, number_of, is_same}
use Rattle.owner_vars.proofs.IndexLemmas.{from_is_in, is_in_true}
use Rattle.owner_vars.proofs.Numbers.{same_itself, is_same_true}
use Rattle.verdict_meaning.specs.Systems.{System, parts_before}
use Rattle.verdict_meaning.specs.Programs.{group_of}
use Rattle.unit_answers.specs.Layouts.{numbers_in, IsPart}

-- The numbers of the unknowns that pass a test

abbrev held : {X : Type 0} → (X → Bool) → X → List X → Bool → List X
held P v us b = cond b (v ∷ filter P us) (filter P us)

head_is : {X : Type 0} (x y : X) (xs ys : List X) → x ∷ xs ≡ y ∷ ys → x ≡ y
head_is x y xs ys e = cc

-- the first of them has the number of the first place that passes
first_number : (P : Unknown → Bool) (us : List Unknown) (x : Unknown) (xs : List Unknown) → filter P us ≡ x ∷ xs → number_of us x ≡ 1 + position_or_len P us
first_number P [] x xs e = cc
first_number P (v ∷ us) x xs e = by (first_number P us x xs) (P v) refl
  where
    passes : P x ≡ true
    passes =
        let all = filter_passes P (v ∷ us) in
        let front = subst (λ (ys : List Unknown). All (λ (y : Unknown). P y ≡ true) ys) e all in
        front 0 x (omega arith)

    number_is : (b : Bool) → is_same x v ≡ b → number_of (v ∷ us) x ≡ cond b 1 (suc (number_of us x))
    number_is b h = ap (λ (c : Bool). cond c 1 (suc (number_of us x))) h

    place_is : (b : Bool) → P v ≡ b → position_or_len P (v ∷ us) ≡ cond (not b) (1 + position_or_len P us) 0
    place_is b h = ap (λ (c : Bool). cond (not c) (1 + position_or_len P us) 0) h

    differ : P v ≡ false → is_same x v ≡ false
    differ h = elim (cases_Bool (is_same x v)) [
      | inl t ↦ absurd (let one : P v ≡ true = ap P (sym (is_same_true x v t)) ∙ passes in cc)
      | inr f ↦ f
    ]

    by : (filter P us ≡ x ∷ xs → number_of us x ≡ 1 + position_or_len P us) → (b : Bool) → P v ≡ b → number_of (v ∷ us) x ≡ 1 + position_or_len P (v ∷ us)
    by rest true h =
        let f : filter P (v ∷ us) ≡ v ∷ filter P us = ap (held P v us) h in
        let same : x ≡ v = head_is x v xs (filter P us) (sym e ∙ f) in
        let one : is_same x v ≡ true = ap (is_same x) (sym same) ∙ same_itself x in
        let number = number_is true one in
        let place = place_is true h in
        omega arith
    by rest false h =
        let f : filter P (v ∷ us) ≡ filter P us = ap (held P v us) h in
        let number = number_is false (differ h) in
        let place = place_is false h in
        let later = rest (sym f ∙ e) in
        omega arith

pub part_numbers : (none first count : ℕ) (r : NumberRange) → IsPart none first count r → numbers_in r ≡ range_with_len first count
part_numbers none first zero r h = ap (range_with_len r.first) h.count_is
part_numbers none first (suc n) r h = ap (range_with_len r.first) h.count_is ∙ ap (λ a. range_with_len a (suc n)) (h.first_is (omega arith))

-- the numbers of those that pass are one after another: so many, from the first place that passes
pub counted : (P : Unknown → Bool) (us xs : List Unknown) (first count : ℕ) → filter P us ≡ xs → map (number_of us) xs ≡ range_with_len first count
    → (count_by P us ≡ count) × (0 < count → 1 + position_or_len P us ≡ first)
counted P us xs first count e numbers =
    (sym (length-filter P us) ∙ ap length e ∙ sym (length-map xs (number_of us)) ∙ ap length numbers ∙ length-range_with_len first count, begins xs count e numbers)
  where
    begins : (ys : List Unknown) (n : ℕ) → filter P us ≡ ys → map (number_of us) ys ≡ range_with_len first n → 0 < n → 1 + position_or_len P us ≡ first
    begins ys zero f h lt = absurd (omega arith)
    begins [] (suc n) f h lt = cc
    begins (y ∷ ys) (suc n) f h lt = sym (first_number P us y ys f) ∙ head_is (number_of us y) first (map (number_of us) ys) (range_with_len (first + 1) n) h

-- Sums

cond_off : (b : Bool) (n : ℕ) → b ≡ false → cond b 0 n ≡ n
cond_off true n e = cc
cond_off false n e = refl

cond_on : (b : Bool) (n : ℕ) → b ≡ true → cond b 0 n ≡ 0
cond_on true n e = refl
cond_on false n e = cc

-- what stands before a member, and its own parts, are within all
pub parts_within : (s : System) (k : ℕ) (ms : List ℕ) → Contains ms k → parts_before s k ms + s.parts k ≤ sum_by s.parts ms
parts_within s k [] h = absurd (let lt = h.1 in omega arith)
parts_within s k (m ∷ ms) h = by (parts_within s k ms) (nat_eq m k) refl
  where
    rest : (m ≡ k → ⊥) → Contains (m ∷ ms) k → Contains ms k
    rest ne (zero, lt, e) = absurd (ne e)
    rest ne (suc i, lt, e) = (i, omega arith, e)

    by : (Contains ms k → parts_before s k ms + s.parts k ≤ sum_by s.parts ms) → (b : Bool) → nat_eq m k ≡ b → parts_before s k (m ∷ ms) + s.parts k ≤ sum_by s.parts (m ∷ ms)
    by later true e =
        let before = cond_on (nat_eq m k) (s.parts m + parts_before s k ms) e in
        let all = sum_by-cons s.parts m ms in
        let same : s.parts m ≡ s.parts k = ap s.parts (eqb-true m k e) in
        omega arith
    by later false e =
        let before = cond_off (nat_eq m k) (s.parts m + parts_before s k ms) e in
        let all = sum_by-cons s.parts m ms in
        let ne : m ≡ k → ⊥ = λ is. (let one = eq-eqb m k is in cc) in
        let own = later (rest ne h) in
        omega arith

-- Groups

group_here : (k : ℕ) (ms : List ℕ) (gs : List (List ℕ)) → is_in ms k ≡ true → group_of (ms ∷ gs) k ≡ 0
group_here k ms gs e = ap (λ (b : Bool). cond (not b) (1 + group_of gs k) 0) e

group_later : (k : ℕ) (ms : List ℕ) (gs : List (List ℕ)) → is_in ms k ≡ false → group_of (ms ∷ gs) k ≡ 1 + group_of gs k
group_later k ms gs e = ap (λ (b : Bool). cond (not b) (1 + group_of gs k) 0) e

group_most : (k : ℕ) (ms : List ℕ) (gs : List (List ℕ)) → group_of (ms ∷ gs) k ≤ 1 + group_of gs k
group_most k ms gs = elim (cases_Bool (is_in ms k)) [
  | inl t ↦ (let e = group_here k ms gs t in omega arith)
  | inr f ↦ (let e = group_later k ms gs f in omega arith)
]

-- the group that was found holds the procedure
pub group_holds : (gs : List (List ℕ)) (k : ℕ) → group_of gs k < length gs → Contains (get_or gs (group_of gs k) []) k
group_holds [] k lt = absurd (omega arith)
group_holds (ms ∷ gs) k lt = elim (cases_Bool (is_in ms k)) [
  | inl t ↦ subst (λ (n : ℕ). Contains (get_or (ms ∷ gs) n []) k) (sym (group_here k ms gs t)) (from_is_in ms k t)
  | inr f ↦
      let e : group_of (ms ∷ gs) k ≡ suc (group_of gs k) = (let next = group_later k ms gs f in omega arith) in
      subst (λ (n : ℕ). Contains (get_or (ms ∷ gs) n []) k) (sym e) (group_holds gs k (omega arith))
]

-- whom a group calls outside it is in a group before it, or done
called_before : (g : FlowGraph) (done : List ℕ) (gs : List (List ℕ)) → IsOrdered g done gs → (e p q : ℕ) → e < length gs → Contains (get_or gs e []) p → Calls g p q
    → (Contains (get_or gs e []) q → ⊥) → Contains done q ⊎ (group_of gs q < e)
called_before g done [] ordered e p q lt member calls outside = absurd (omega arith)
called_before g done (ms ∷ gs) ordered zero p q lt member calls outside = elim (ordered.0.ready p q member calls) [
  | inl own ↦ absurd (outside own)
  | inr before ↦ inl before
]
called_before g done (ms ∷ gs) ordered (suc e) p q lt member calls outside = elim (called_before g (done ++ ms) gs ordered.1 e p q (omega arith) member calls outside) [
  | inl h ↦ elim (Contains-append_cases done ms q h) [
    | inl before ↦ inl before
    | inr here ↦ inr (let zero_ = group_here q ms gs (is_in_true ms q here) in omega arith)
  ]
  | inr less ↦ inr (let most = group_most q ms gs in omega arith)
]

pub called_lower : (g : FlowGraph) (gs : List (List ℕ)) → IsGrouping g gs → (e p q : ℕ) → e < length gs → Contains (get_or gs e []) p → Calls g p q
    → (Contains (get_or gs e []) q → ⊥) → group_of gs q < e
called_lower g gs grouping e p q lt member calls outside = elim (called_before g [] gs grouping e p q lt member calls outside) [
  | inl none ↦ absurd (let less = none.1 in omega arith)
  | inr h ↦ h
]
