-- What it means that P holds of each element of lists that are made in parts, and of forms as tests.
use Rattle.std.proofs.Common.{◌≡◌, ℕ, zero, suc, ◌+◌, ◌-◌, ◌<◌, ◌≤◌, Bool, true, false, ◌&&◌, not, List, [], ◌∷◌, ◌++◌, Option, Some, None, refl, sym, ap, subst, ◌∙◌, arith, ◌↔◌, ◌⊎◌, inl, inr}
use Rattle.std.specs.Prelude.{map}
use Rattle.std.specs.List.{flat_map}
use Rattle.zo_core.specs.Forms.{bit, FormHolds}
use Rattle.zo_core.specs.declared.forms.Form.{Form}
use Rattle.zo_core.specs.declared.number_range.NumberRange.{NumberRange}
use Rattle.field_rules.specs.Lists.{gather, when}
use Rattle.field_rules.specs.Meaning.{FormsHold}
use Rattle.field_rules.specs.Sight.{Sight, HasField, over_range, over_fields}
use Rattle.transfer_rules.specs.Holds.{Each}

-- Equivalences

pub iff_then : (A B C : Type 0) → (A ↔ B) → (B ↔ C) → (A ↔ C)
iff_then A B C f g = ((λ a. g.0 (f.0 a)), (λ c. f.1 (g.1 c)))

pub iff_both : (A B C D : Type 0) → (A ↔ B) → (C ↔ D) → ((A × C) ↔ (B × D))
iff_both A B C D f g = ((λ h. (f.0 h.0, g.0 h.1)), (λ h. (f.1 h.0, g.1 h.1)))

-- Tests

pub zero_law : (b : Bool) → ((bit b ≡ 0) ↔ (b ≡ false))
zero_law true = ((λ h. absurd (omega arith)), (λ h. cc))
zero_law false = ((λ _. refl), (λ _. refl))

pub one_law : (b : Bool) → ((bit b ≡ 1) ↔ (b ≡ true))
one_law true = ((λ _. refl), (λ _. refl))
one_law false = ((λ h. absurd (omega arith)), (λ h. cc))

pub equal_law : (a b : Bool) → ((bit a ≡ bit b) ↔ (a ≡ b))
equal_law true true = ((λ _. refl), (λ _. refl))
equal_law true false = ((λ h. absurd (omega arith)), (λ h. cc))
equal_law false true = ((λ h. absurd (omega arith)), (λ h. cc))
equal_law false false = ((λ _. refl), (λ _. refl))

pub at_most_law : (a b : Bool) → ((bit a ≤ bit b) ↔ (a ≡ true → b ≡ true))
at_most_law true true = ((λ _ _. refl), (λ _. omega arith))
at_most_law true false = ((λ h _. absurd (omega arith)), (λ h. let e : false ≡ true = h refl in cc))
at_most_law false true = ((λ _ _. refl), (λ _. omega arith))
at_most_law false false = ((λ _ e. e), (λ _. omega arith))

pub not_both_law : (a b : Bool) → ((bit a + bit b ≤ 1) ↔ (a ≡ true → b ≡ true → ⊥))
not_both_law true true = ((λ h _ _. omega arith), (λ h. absurd (h refl refl)))
not_both_law true false = ((λ _ _ e. cc), (λ _. omega arith))
not_both_law false true = ((λ _ e _. cc), (λ _. omega arith))
not_both_law false false = ((λ _ e _. cc), (λ _. omega arith))

pub both_true : (a b : Bool) → (((a && b) ≡ true) ↔ ((a ≡ true) × (b ≡ true)))
both_true true true = ((λ _. (refl, refl)), (λ _. refl))
both_true true false = ((λ h. (refl, h)), (λ h. h.1))
both_true false true = ((λ h. (h, refl)), (λ h. h.0))
both_true false false = ((λ h. (h, h)), (λ h. h.0))

pub not_true : (b : Bool) → ((not b ≡ true) ↔ (b ≡ false))
not_true true = ((λ h. cc), (λ h. cc))
not_true false = ((λ _. refl), (λ _. refl))

pub true_or_false : (b : Bool) → (b ≡ true) ⊎ (b ≡ false)
true_or_false true = inl refl
true_or_false false = inr refl

-- Each

module _ {X : Type 0} (P : X → Type 0) where
  pub each-append : (xs ys : List X) → (Each P (xs ++ ys) ↔ (Each P xs × Each P ys))
  each-append [] ys = ((λ h. (tt, h)), (λ h. h.1))
  each-append (x ∷ xs) ys =
      let more = each-append xs ys in
      ((λ h. ((h.0, (more.0 h.1).0), (more.0 h.1).1)), (λ h. (h.0.0, more.1 (h.0.1, h.1))))

  pub each-gather : (n : ℕ) (f : ℕ → List X) → (Each P (gather n f) ↔ ((i : ℕ) → i < n → Each P (f i)))
  each-gather zero f = ((λ h i lt. absurd (omega arith)), (λ h. tt))
  each-gather (suc n) f =
      let a = each-append (gather n f) (f n) in
      let more = each-gather n f in
      let down : Each P (gather (suc n) f) → (i : ℕ) → i < suc n → Each P (f i) =
      λ h i lt. elim (split i n lt) [ inl k ↦ more.0 (a.0 h).0 i k | inr e ↦ subst (λ j. Each P (f j)) (sym e) (a.0 h).1 ] in
      (down, (λ h. a.1 (more.1 (λ i lt. h i (omega arith)), h n (omega arith))))
    where
      split : (i n : ℕ) → i < suc n → (i < n) ⊎ (i ≡ n)
      split i n lt = elim (compare_lt i n lt) [ inl k ↦ inl k | inr e ↦ inr e ]
        where
          compare_lt : (i n : ℕ) → i < suc n → (i < n) ⊎ (i ≡ n)
          compare_lt zero zero lt = inr refl
          compare_lt zero (suc n) lt = inl (omega arith)
          compare_lt (suc i) zero lt = absurd (omega arith)
          compare_lt (suc i) (suc n) lt = elim (compare_lt i n (omega arith)) [ inl k ↦ inl (omega arith) | inr e ↦ inr (ap suc e) ]

  pub each-when : (b : Bool) (xs : List X) → (Each P (when b xs) ↔ (b ≡ true → Each P xs))
  each-when true xs = ((λ h _. h), (λ h. h refl))
  each-when false xs = ((λ _ e. absurd (no_true e)), (λ _. tt))
    where
      no_true : false ≡ true → ⊥
      no_true e = cc

  pub each-flat : {Y : Type 0} (f : Y → List X) (ys : List Y) → (Each P (flat_map f ys) ↔ Each (λ y. Each P (f y)) ys)
  each-flat f [] = ((λ _. tt), (λ _. tt))
  each-flat f (y ∷ ys) =
      let a = each-append (f y) (flat_map f ys) in
      let more = each-flat f ys in
      ((λ h. ((a.0 h).0, more.0 (a.0 h).1)), (λ h. a.1 (h.0, more.1 h.1)))

  pub each-range : (r : NumberRange) (c : ℕ → List X) → (Each P (over_range r c) ↔ ((f : ℕ) → r.first ≤ f → f < r.first + r.count → Each P (c f)))
  each-range r c =
      let g = each-gather r.count (λ j. c (r.first + j)) in (
        (λ h f from to. let e : r.first + (f - r.first) ≡ f = omega arith in subst (λ k. Each P (c k)) e (g.0 h (f - r.first) (omega arith))),
        (λ h. g.1 (λ j lt. h (r.first + j) (omega arith) (omega arith))),
      )

  pub each-fields : (v : Sight) (x : ℕ) (c : ℕ → List X) → (Each P (over_fields v (v.structure x) c) ↔ ((f : ℕ) → HasField v x f → Each P (c f)))
  each-fields v x c = by (v.structure x) refl
    where
      some_none : (r : ℕ) → None ≡ Some r → ⊥
      some_none r e = cc

      by : (o : Option ℕ) → v.structure x ≡ o → (Each P (over_fields v o c) ↔ ((f : ℕ) → HasField v x f → Each P (c f)))
      by None e = ((λ _ f has. absurd (some_none has.structure (sym e ∙ has.is))), (λ _. tt))
      by (Some r) e =
          let g = each-range (v.fields_of r) c in (
            (λ h f has.
                let same : has.structure ≡ r = one has.structure r (sym has.is ∙ e) in
                g.0 h f (subst (λ k. (v.fields_of k).first ≤ f) same has.from) (subst (λ k. f < (v.fields_of k).first + (v.fields_of k).count) same has.to)),
            (λ h. g.1 (λ f from to. h f (record { structure = r; is = e; from = from; to = to }))),
          )
        where
          one : (i j : ℕ) → Some i ≡ Some j → i ≡ j
          one i j h = cc

  pub each-map : {Y : Type 0} (g : Y → X) (ys : List Y) → (Each P (map g ys) ↔ Each (λ y. P (g y)) ys)
  each-map g [] = ((λ _. tt), (λ _. tt))
  each-map g (y ∷ ys) = let more = each-map g ys in ((λ h. (h.0, more.0 h.1)), (λ h. (h.0, more.1 h.1)))

pub each-same : {X : Type 0} (P Q : X → Type 0) (xs : List X) → ((x : X) → (P x ↔ Q x)) → (Each P xs ↔ Each Q xs)
each-same P Q [] h = ((λ _. tt), (λ _. tt))
each-same P Q (x ∷ xs) h = let more = each-same P Q xs h in ((λ k. ((h x).0 k.0, more.0 k.1)), (λ k. ((h x).1 k.0, more.1 k.1)))

-- Forms

pub forms-each : (fs : List Form) (t : ℕ → Bool) → (FormsHold fs t ↔ Each (λ f. FormHolds f t) fs)
forms-each [] t = ((λ _. tt), (λ _. tt))
forms-each (f ∷ fs) t = let more = forms-each fs t in ((λ h. (h.0, more.0 h.1)), (λ h. (h.0, more.1 h.1)))
