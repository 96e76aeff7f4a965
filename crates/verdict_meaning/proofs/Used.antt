-- The names that a derivation uses are one list.
use Rattle.std.proofs.Common.{◌≡◌, ℕ, zero, suc, ◌<◌, ◌⊎◌, inl, inr, List, [], ◌∷◌, refl, sym, ap, ◌∙◌, subst, arith, length, get_or}
use Rattle.std.specs.Prelude.{⊤}
use Rattle.std.specs.List.{Contains}
use Rattle.std.specs.Cmp.{IsTotalOrder}
use Rattle.std.specs.declared.cmp.Ordering.TheVariants.{Less, Equal}
use Rattle.std.proofs.lemmas.Cmp.{then_total, on_total, nat_cmp_total, tied_itself}
use Rattle.conflict_proof.specs.declared.names.ConstraintName.{ConstraintName}
use Rattle.conflict_proof.specs.Names.{name_order}
use Rattle.verdict_meaning.specs.UsedNames.{AreAscending}
use Rattle.verdict_meaning.specs.Laws.{UsedNamesAreOne}

names_total : IsTotalOrder name_order
names_total =
    then_total (on_total (λ (n : ConstraintName). n.proc) nat_cmp_total)
    (then_total (on_total (λ (n : ConstraintName). n.place) nat_cmp_total)
    (then_total (on_total (λ (n : ConstraintName). n.edge) nat_cmp_total)
    (then_total (on_total (λ (n : ConstraintName). n.rule) nat_cmp_total)
    (then_total (on_total (λ (n : ConstraintName). n.slot) nat_cmp_total)
    (then_total (on_total (λ (n : ConstraintName). n.field) nat_cmp_total)
    (on_total (λ (n : ConstraintName). n.other) nat_cmp_total))))))

less_trans : (a b c : ConstraintName) → name_order a b ≡ Less → name_order b c ≡ Less → name_order a c ≡ Less
less_trans a b c = names_total.trans a b c

not_less : (a : ConstraintName) → name_order a a ≡ Less → ⊥
not_less a less = let same : name_order a a ≡ Equal = tied_itself names_total a in cc

abbrev AllAfter : ConstraintName → List ConstraintName → Type 0
AllAfter a [] = ⊤
AllAfter a (b ∷ bs) = (name_order a b ≡ Less) × AllAfter a bs

after_more : (a b : ConstraintName) (bs : List ConstraintName) → name_order a b ≡ Less → AllAfter b bs → AllAfter a bs
after_more a b [] e h = tt
after_more a b (c ∷ bs) e h = (less_trans a b c e h.0, after_more a b bs e h.1)

tail_ascends : (a : ConstraintName) (bs : List ConstraintName) → AreAscending (a ∷ bs) → AreAscending bs
tail_ascends a [] h = tt
tail_ascends a (b ∷ bs) h = h.1

all_after : (a : ConstraintName) (bs : List ConstraintName) → AreAscending (a ∷ bs) → AllAfter a bs
all_after a [] h = tt
all_after a (b ∷ bs) h = (h.0, after_more a b bs h.0 (all_after b bs h.1))

one_after : (a : ConstraintName) (bs : List ConstraintName) (n : ConstraintName) → AllAfter a bs → Contains bs n → name_order a n ≡ Less
one_after a bs n h c = at bs c.0 c.1 c.2 h
  where
    at : (bs : List ConstraintName) (k : ℕ) → k < length bs → get_or bs k n ≡ n → AllAfter a bs → name_order a n ≡ Less
    at [] k lt e h = absurd (omega arith)
    at (b ∷ bs) zero lt e h = subst (λ x. name_order a x ≡ Less) e h.0
    at (b ∷ bs) (suc k) lt e h = at bs k (omega arith) e h.1

contains_cases : (a n : ConstraintName) (bs : List ConstraintName) → Contains (a ∷ bs) n → (a ≡ n) ⊎ Contains bs n
contains_cases a n bs (zero, lt, e) = inl e
contains_cases a n bs (suc k, lt, e) = inr (k, omega arith, e)

contains_more : (a n : ConstraintName) (bs : List ConstraintName) → Contains bs n → Contains (a ∷ bs) n
contains_more a n bs h = (suc h.0, omega (arith, h.1), h.2)

same_names : (xs bs : List ConstraintName) → AreAscending xs → AreAscending bs → ((n : ConstraintName) → Contains xs n → Contains bs n) → ((n : ConstraintName) → Contains bs n → Contains xs n) → xs ≡ bs
same_names [] [] p q f g = refl
same_names [] (b ∷ bs) p q f g = absurd (let h : Contains {X = ConstraintName} [] b = g b (0, omega arith, refl) in let l = h.1 in omega arith)
same_names (a ∷ xs) [] p q f g = absurd (let h : Contains {X = ConstraintName} [] a = f a (0, omega arith, refl) in let l = h.1 in omega arith)
same_names (a ∷ xs) (b ∷ bs) p q f g =
    let heads : a ≡ b = elim (contains_cases b a bs (f a (0, omega arith, refl))) [
      | inl e ↦ sym e
      | inr h ↦ elim (contains_cases a b xs (g b (0, omega arith, refl))) [
        | inl e ↦ e
        | inr k ↦ absurd (not_less a (less_trans a b a (one_after a xs b (all_after a xs p) k) (one_after b bs a (all_after b bs q) h)))
      ]
    ] in
    let tails : xs ≡ bs = same_names xs bs (tail_ascends a xs p) (tail_ascends b bs q)
    (λ n h. elim (contains_cases b n bs (f n (contains_more a n xs h))) [
      | inl e ↦ absurd (not_less n (subst (λ x. name_order x n ≡ Less) (heads ∙ e) (one_after a xs n (all_after a xs p) h)))
      | inr k ↦ k
    ])
    (λ n h. elim (contains_cases a n xs (g n (contains_more b n bs h))) [
      | inl e ↦ absurd (not_less n (subst (λ x. name_order x n ≡ Less) (sym heads ∙ e) (one_after b bs n (all_after b bs q) h)))
      | inr k ↦ k
    ]) in
    ap (λ x. x ∷ xs) heads ∙ ap (λ l. b ∷ l) tails

pub used_names_are_one : UsedNamesAreOne
used_names_are_one lines names others u v =
    same_names names others u.order v.order
    (λ n h. let w = u.only n h in v.all n w.0 w.1)
    (λ n h. let w = v.only n h in u.all n w.0 w.1)
