-- Instances that are kept.
use Rattle.std.proofs.Common.{◌≡◌, ℕ, zero, suc, ◌+◌, ◌<◌, ◌≤◌, ◌⊎◌, inl, inr, Bool, true, false, cond, ◌||◌, List, [], ◌∷◌, ◌++◌, Some, refl, sym, ap, ◌∙◌, subst, arith, length, get_or, take, slice_get, set, get_or-set_same, get_or-set_other, length-set}
use Rattle.std.specs.List.{filter}
use Rattle.std.proofs.lemmas.Bool.{cases_eq}
use Rattle.zo_core.specs.Literals.{Literal}
use Rattle.zo_core.specs.Truth.{holds, clause_true}
use Rattle.conflict_proof.specs.declared.derivation.Line.{Line}
use Rattle.verdict_meaning.specs.Certificates.{bit_at}
use Rattle.call_search.specs.declared.entries.Entry.{Entry}
use Rattle.call_search.specs.Entries.{in_group, IsFrom, AreTrueOnly, AreJoined, AreKeptBy}
use Rattle.call_search.proofs.Lists.{append_cases}

-- literal by literal

pub true_by : (a : ℕ → Bool) (c : List Literal) (i : ℕ) (l : Literal) → i < length c → l ≡ get_or c i l → holds a l ≡ true → true ≡ clause_true a c
true_by a [] i l lt e h = absurd (omega arith)
true_by a (m ∷ c) zero l lt e h = ap (λ b. b || clause_true a c) (sym h) ∙ ap (λ x. holds a x || clause_true a c) e
true_by a (m ∷ c) (suc i) l lt e h = or_right (holds a m) (clause_true a c) (true_by a c i l (omega arith) e h)
  where
    or_right : (x y : Bool) → true ≡ y → true ≡ (x || y)
    or_right true y e = refl
    or_right false y e = e

pub false_more : (a : ℕ → Bool) (c : List Literal) (i : ℕ) (l : Literal) → i < length c → l ≡ get_or c i l → holds a l ≡ false → clause_true a (take i c) ≡ false → clause_true a (take (i + 1) c) ≡ false
false_more a c i l lt e h f = let s : i + 1 ≡ suc i = omega arith in ap (λ k. clause_true a (take k c)) s ∙ next a c i l lt e h f
  where
    or_false : (x y : Bool) → x ≡ false → y ≡ false → (x || y) ≡ false
    or_false x y e f = ap (λ b. b || y) e ∙ f

    first : (x y : Bool) → (x || y) ≡ false → x ≡ false
    first true y e = cc
    first false y e = refl

    second : (x y : Bool) → (x || y) ≡ false → y ≡ false
    second true y e = cc
    second false y e = e

    next : (a : ℕ → Bool) (c : List Literal) (i : ℕ) (l : Literal) → i < length c → l ≡ get_or c i l → holds a l ≡ false → clause_true a (take i c) ≡ false → clause_true a (take (suc i) c) ≡ false
    next a [] i l lt e h f = refl
    next a (m ∷ c) zero l lt e h f = or_false (holds a m) (clause_true a []) (ap (holds a) (sym e) ∙ h) refl
    next a (m ∷ c) (suc i) l lt e h f = or_false (holds a m) (clause_true a (take (suc i) c)) (first (holds a m) (clause_true a (take i c)) f) (next a c i l (omega arith) e h (second (holds a m) (clause_true a (take i c)) f))

take_all : (c : List Literal) (i : ℕ) → length c ≤ i → take i c ≡ c
take_all [] zero le = refl
take_all [] (suc i) le = refl
take_all (l ∷ c) zero le = absurd (omega arith)
take_all (l ∷ c) (suc i) le = ap (λ x. l ∷ x) (take_all c i (omega arith))

pub false_all : (a : ℕ → Bool) (c : List Literal) (i : ℕ) → length c ≤ i → clause_true a (take i c) ≡ false → false ≡ clause_true a c
false_all a c i le f = sym f ∙ ap (clause_true a) (take_all c i le)

-- those that pass a test

filtered : (p : Entry → Bool) (xs : List Entry) (n : ℕ) (e : Entry) → slice_get (filter p xs) n ≡ Some e → ((m : ℕ) × (slice_get xs m ≡ Some e)) × (p e ≡ true)
filtered p [] n e at = cc
filtered p (x ∷ xs) n e at = go (λ k h. filtered p xs k e h) (p x) refl n at
  where
    one : (a b : Entry) → Some a ≡ Some b → a ≡ b
    one a b h = cc

    later : (rest : (k : ℕ) → slice_get (filter p xs) k ≡ Some e → ((m : ℕ) × (slice_get xs m ≡ Some e)) × (p e ≡ true)) → (n : ℕ) → slice_get (filter p xs) n ≡ Some e → ((m : ℕ) × (slice_get (x ∷ xs) m ≡ Some e)) × (p e ≡ true)
    later rest n at = let r = rest n at in ((suc r.0.0, r.0.1), r.1)

    go : (rest : (k : ℕ) → slice_get (filter p xs) k ≡ Some e → ((m : ℕ) × (slice_get xs m ≡ Some e)) × (p e ≡ true)) → (b : Bool) → p x ≡ b → (n : ℕ) → slice_get (cond b (x ∷ filter p xs) (filter p xs)) n ≡ Some e → ((m : ℕ) × (slice_get (x ∷ xs) m ≡ Some e)) × (p e ≡ true)
    go rest true h zero at = let s : x ≡ e = one x e at in ((0, ap (λ y. Some y) s), ap p (sym s) ∙ h)
    go rest true h (suc n) at = later rest n at
    go rest false h n at = later rest n at

pub true_only : (c : List Literal) (old new : List Entry) → new ≡ filter (λ (e : Entry). clause_true (bit_at e.bits) c) old → AreTrueOnly c old new
true_only c old new is n e at = filtered (λ (e : Entry). clause_true (bit_at e.bits) c) old n e (ap (λ (xs : List Entry). slice_get xs n) (sym is) ∙ at)

-- tables

at_default : (t : List (List Entry)) (g : ℕ) (d f : List Entry) → g < length t → get_or t g d ≡ get_or t g f
at_default [] g d f lt = absurd (omega arith)
at_default (x ∷ t) zero d f lt = refl
at_default (x ∷ t) (suc g) d f lt = at_default t g d f (omega arith)

pub record IsGathering (old t kept left : List (List Entry)) (upto : ℕ) : Type 0 where
  pub size : length kept ≡ length old
  pub left_size : length left ≡ length t
  pub each : (g n : ℕ) (e : Entry) → slice_get (in_group kept g) n ≡ Some e → IsFrom old g e ⊎ IsFrom t g e
  pub rest : (h : ℕ) → upto ≤ h → in_group left h ≡ in_group t h

pub gathering_none : (old t : List (List Entry)) → IsGathering old t old t 0
gathering_none old t = record { size = refl; left_size = refl; each = λ g n e at. inl (n, at); rest = λ h le. refl }

pub gathering_next : (old t kept left kept2 left2 : List (List Entry)) (i : ℕ) (xs ys zs ws : List Entry) → IsGathering old t kept left i → i < length kept → i < length left → xs ≡ get_or kept i xs → ys ≡ get_or left i ys → zs ≡ xs ++ ys
    → kept2 ≡ set kept i zs → left2 ≡ set left i ws → IsGathering old t kept2 left2 (i + 1)
gathering_next old t kept left kept2 left2 i xs ys zs ws g lt lu xe ye ze ke le = record {
  size = ap length ke ∙ length-set kept i zs ∙ g.size;
  left_size = ap length le ∙ length-set left i ws ∙ g.left_size;
  each = λ h n e at. elim (cases_eq h i) [
    | inl same ↦ subst (λ k. IsFrom old k e ⊎ IsFrom t k e) (sym same) (here n e (ap (λ k. slice_get (in_group kept2 k) n) (sym same) ∙ at))
    | inr other ↦ g.each h n e (ap (λ (es : List Entry). slice_get es n) (sym (ap (λ (k : List (List Entry)). in_group k h) ke ∙ get_or-set_other kept i h zs [] other)) ∙ at)
  ];
  rest = λ h up. ap (λ (k : List (List Entry)). in_group k h) le ∙ get_or-set_other left i h ws [] (λ (same : h ≡ i). let z : ⊥ = omega arith in z) ∙ g.rest h (omega arith);
}
  where
    here : (n : ℕ) (e : Entry) → slice_get (in_group kept2 i) n ≡ Some e → IsFrom old i e ⊎ IsFrom t i e
    here n e at =
        let now : in_group kept2 i ≡ xs ++ ys = ap (λ (k : List (List Entry)). in_group k i) ke ∙ get_or-set_same kept i zs [] lt ∙ ze in
        elim (append_cases xs ys e n (ap (λ (es : List Entry). slice_get es n) (sym now) ∙ at)) [
          | inl a ↦ g.each i n e (ap (λ (es : List Entry). slice_get es n) (sym (xe ∙ at_default kept i xs [] lt)) ∙ a)
          | inr b ↦ inr (b.0, ap (λ (es : List Entry). slice_get es b.0) (sym (ye ∙ at_default left i ys [] lu ∙ g.rest i (omega arith))) ∙ b.1)
        ]

pub gathered_all : (old t kept left : List (List Entry)) (upto : ℕ) → IsGathering old t kept left upto → AreJoined old t kept
gathered_all old t kept left upto g = record { size = g.size; each = g.each }

-- a clause tests the instances of one group

pub kept_by : (line : Line) (old t mid new : List (List Entry)) (xs ys : List Entry) → AreJoined old t mid → line.group < length mid → xs ≡ get_or mid line.group xs → AreTrueOnly line.lits xs ys → new ≡ set mid line.group ys → AreKeptBy line old t new
kept_by line old t mid new xs ys j lt xe only ne = record {
  size = ap length ne ∙ length-set mid line.group ys ∙ j.size;
  each = λ g n e at. elim (cases_eq g line.group) [
    | inl same ↦ here g n e same at
    | inr other ↦ (j.each g n e (ap (λ (es : List Entry). slice_get es n) (sym (ap (λ (k : List (List Entry)). in_group k g) ne ∙ get_or-set_other mid line.group g ys [] other)) ∙ at), λ s. absurd (other (sym s)))
  ];
}
  where
    now : in_group new line.group ≡ ys
    now = ap (λ (k : List (List Entry)). in_group k line.group) ne ∙ get_or-set_same mid line.group ys [] lt

    here : (g n : ℕ) (e : Entry) → g ≡ line.group → slice_get (in_group new g) n ≡ Some e → (IsFrom old g e ⊎ IsFrom t g e) × (line.group ≡ g → clause_true (bit_at e.bits) line.lits ≡ true)
    here g n e same at =
        let r = only n e (ap (λ (es : List Entry). slice_get es n) (sym now) ∙ ap (λ k. slice_get (in_group new k) n) (sym same) ∙ at) in
        (j.each g r.0.0 e (ap (λ k. slice_get (in_group mid k) r.0.0) same ∙ ap (λ (es : List Entry). slice_get es r.0.0) (sym (xe ∙ at_default mid line.group xs [] lt)) ∙ r.0.1), λ s. r.1)

pub kept_all : (line : Line) (old t mid : List (List Entry)) → AreJoined old t mid → length mid ≤ line.group → AreKeptBy line old t mid
kept_all line old t mid j le = record {
  size = j.size;
  each = λ g n e at. (j.each g n e at, λ s. absurd (none mid g n e (omega arith) at));
}
  where
    none : (t : List (List Entry)) (g n : ℕ) (e : Entry) → length t ≤ g → slice_get (in_group t g) n ≡ Some e → ⊥
    none [] g n e le at = cc
    none (x ∷ t) zero n e le at = absurd (omega arith)
    none (x ∷ t) (suc g) n e le at = none t g n e (omega arith) at
