-- Marking the lines on which a line stands, from the last one down.
use Rattle.std.proofs.Common.{◌≡◌, ℕ, zero, suc, ◌+◌, ◌-◌, ◌<◌, ◌≤◌, inl, inr, Bool, true, false, List, [], ◌∷◌, length, set, Some, slice_get, refl, sym, ap, subst, ◌∙◌, arith}
use Rattle.std.proofs.lemmas.Bool.{cases_eq}
use Rattle.std.proofs.lemmas.List.{length-set}
use Rattle.std.proofs.lemmas.Option.{slice_get_within}
use Rattle.zo_core.specs.Literals.{Literal}
use Rattle.zo_solver.specs.Clauses.{numbered}
use Rattle.zo_solver.specs.Derived.{IsTrueOrigin}
use Rattle.zo_solver.specs.declared.answers.Origin.{Origin}
use Rattle.zo_solver.specs.declared.answers.Origin.TheVariants.{Given, Lemma, Resolved}
use Rattle.group_solver.specs.Marks.{AreAll, IsMarked, PremisesAreBelow, PremisesAreMarked, IsClosedFrom, Marks}
use Rattle.group_solver.proofs.Lists.{same_some, get_below, numbered_within}

pub get_set_same : (xs : List Bool) (k : ℕ) (x : Bool) → k < length xs → slice_get (set xs k x) k ≡ Some x
get_set_same [] k x lt = absurd (omega arith)
get_set_same (y ∷ xs) zero x lt = refl
get_set_same (y ∷ xs) (suc k) x lt = get_set_same xs k x (omega arith)

get_set_other : (xs : List Bool) (k j : ℕ) (x : Bool) → (j ≡ k → ⊥) → slice_get (set xs k x) j ≡ slice_get xs j
get_set_other [] k j x ne = refl
get_set_other (y ∷ xs) zero zero x ne = absurd (ne refl)
get_set_other (y ∷ xs) zero (suc j) x ne = refl
get_set_other (y ∷ xs) (suc k) zero x ne = refl
get_set_other (y ∷ xs) (suc k) (suc j) x ne = get_set_other xs k j x (λ e. ne (ap suc e))

set_kept : (xs : List Bool) (k j : ℕ) → k < length xs → slice_get xs j ≡ Some true → slice_get (set xs k true) j ≡ Some true
set_kept xs k j lt e = elim (cases_eq j k) [
  | inl same ↦ subst (λ (i : ℕ). slice_get (set xs k true) i ≡ Some true) (sym same) (get_set_same xs k true lt)
  | inr ne ↦ get_set_other xs k j true ne ∙ e
]

-- the first of two marks stays
pub marked_at : (xs : List Bool) (n : ℕ) → 0 < n → slice_get xs (n - 1) ≡ Some true → IsMarked xs n
marked_at xs zero some e = absurd (omega arith)
marked_at xs (suc k) some e = let same : suc k - 1 ≡ k = omega arith in subst (λ (i : ℕ). slice_get xs i ≡ Some true) same e

pub marks_two : (xs : List Bool) (a b : ℕ) → 0 < a → a ≤ length xs → 0 < b → b ≤ length xs → Marks (Resolved a b) xs (set (set xs (a - 1) true) (b - 1) true)
marks_two xs a b some le other high =
    let size = length-set xs (a - 1) true in
    let all = length-set (set xs (a - 1) true) (b - 1) true in
    record {
      size = all ∙ size;
      premises = (
        marked_at (set (set xs (a - 1) true) (b - 1) true) a some (set_kept (set xs (a - 1) true) (b - 1) (a - 1) (omega arith) (get_set_same xs (a - 1) true (omega arith))),
        marked_at (set (set xs (a - 1) true) (b - 1) true) b other (get_set_same (set xs (a - 1) true) (b - 1) true (omega arith)),
      );
      kept = λ k e. set_kept (set xs (a - 1) true) (b - 1) k (omega arith) (set_kept xs (a - 1) k (omega arith) e);
      others = λ n k below le_n.
          let one : a < n = below.1 in
          let two : b < n = below.3 in
          get_set_other (set xs (a - 1) true) (b - 1) k true (λ e. omega arith) ∙ get_set_other xs (a - 1) k true (λ e. omega arith);
    }

pub marks_given : (xs : List Bool) (n : ℕ) → Marks (Given n) xs xs
marks_given xs n = record { size = refl; premises = tt; kept = λ k e. e; others = λ m k below le. refl }

pub marks_lemma : (xs : List Bool) → Marks Lemma xs xs
marks_lemma xs = record { size = refl; premises = tt; kept = λ k e. e; others = λ m k below le. refl }

pub below_is : (given lines : List (List Literal)) (n : ℕ) (c : List Literal) (o : Origin) → IsTrueOrigin given lines n c o → PremisesAreBelow n o
below_is given lines n c (Given k) h = tt
below_is given lines n c Lemma h = tt
below_is given lines n c (Resolved a b) h =
    let one = numbered_within lines a h.first h.first_at in
    let two = numbered_within lines b h.second h.second_at in
    (one.0, h.first_before, two.0, h.second_before)

pub below_more : (n m : ℕ) (o : Origin) → n ≤ m → PremisesAreBelow n o → PremisesAreBelow m o
below_more n m (Given k) le h = tt
below_more n m Lemma le h = tt
below_more n m (Resolved a b) le h = (h.0, (let lt = h.1 in omega arith), h.2, (let lt = h.3 in omega arith))

marked_more : (old new : List Bool) (o : Origin) → ((k : ℕ) → slice_get old k ≡ Some true → slice_get new k ≡ Some true) → PremisesAreMarked old o → PremisesAreMarked new o
marked_more old new (Given k) more h = tt
marked_more old new Lemma more h = tt
marked_more old new (Resolved a b) more h = (number a h.0, number b h.1)
  where
    number : (n : ℕ) → IsMarked old n → IsMarked new n
    number zero e = cc
    number (suc k) e = more k e

pub marked_number : (old new : List Bool) (n : ℕ) → ((k : ℕ) → slice_get old k ≡ Some true → slice_get new k ≡ Some true) → IsMarked old n → IsMarked new n
marked_number old new zero kept e = cc
marked_number old new (suc k) kept e = kept k e

pub numbered_at : {X : Type 0} (xs : List X) (n : ℕ) (x : X) → numbered xs n ≡ Some x → slice_get xs (n - 1) ≡ Some x
numbered_at xs zero x e = cc
numbered_at xs (suc k) x e = let same : suc k - 1 ≡ k = omega arith in ap (λ i. slice_get xs i) same ∙ e

-- nothing stands behind the last line
pub closed_past : (n : ℕ) (origins : List Origin) (marks : List Bool) → length marks ≤ n → IsClosedFrom n origins marks
closed_past n origins marks le k o low mark at below = absurd (let lt = slice_get_within marks k true mark in omega arith)

pub closed_later : (n m : ℕ) (origins : List Origin) (marks : List Bool) → n ≤ m → IsClosedFrom n origins marks → IsClosedFrom m origins marks
closed_later n m origins marks le h k o low mark at below = h k o (omega arith) mark at below

-- a line that isn't marked
pub closed_off : (n : ℕ) (origins : List Origin) (marks : List Bool) → slice_get marks n ≡ Some false → IsClosedFrom (suc n) origins marks → IsClosedFrom n origins marks
closed_off n origins marks unmarked h k o low mark at below = elim (cases_eq k n) [
  | inl e ↦ (let clash : Some false ≡ Some true = sym unmarked ∙ ap (λ (i : ℕ). slice_get marks i) (sym e) ∙ mark in cc)
  | inr ne ↦ h k o (omega arith) mark at below
]

-- one whose premises were marked
pub closed_on : (n : ℕ) (origins : List Origin) (old new : List Bool) (o : Origin) → slice_get origins n ≡ Some o → PremisesAreBelow (suc n) o → Marks o old new → IsClosedFrom (suc n) origins old → IsClosedFrom n origins new
closed_on n origins old new o here own made h k p low mark at below = elim (cases_eq k n) [
  | inl e ↦ subst (PremisesAreMarked new) (same_some o p (sym here ∙ ap (λ (i : ℕ). slice_get origins i) (sym e) ∙ at)) made.premises
  | inr ne ↦ marked_more old new p made.kept (h k p (omega arith) (sym (made.others (suc n) k own (omega arith)) ∙ mark) at below)
]

-- where all are marked
all_at : (marks : List Bool) (n : ℕ) → AreAll marks → 0 < n → n ≤ length marks → IsMarked marks n
all_at marks zero all some le = absurd (omega arith)
all_at marks (suc k) all some le = let b = get_below marks k (omega arith) in b.1 ∙ ap Some (all k b.0 b.1)

pub premises_all : (marks : List Bool) (n : ℕ) (o : Origin) → AreAll marks → n ≤ length marks + 1 → PremisesAreBelow n o → PremisesAreMarked marks o
premises_all marks n (Given k) all le h = tt
premises_all marks n Lemma all le h = tt
premises_all marks n (Resolved a b) all le h = (all_at marks a all h.0 (let lt = h.1 in omega arith), all_at marks b all h.2 (let lt = h.3 in omega arith))

pub closed_all : (first : ℕ) (origins : List Origin) (marks : List Bool) → AreAll marks → IsClosedFrom first origins marks
closed_all first origins marks all k o low mark at below = premises_all marks (suc k) o all (let lt = slice_get_within marks k true mark in omega arith) below
