-- What a line more does to a ledger.
use Rattle.std.proofs.Common.{◌≡◌, ℕ, zero, suc, ◌+◌, ◌<◌, ◌^◌, ◌⊎◌, inl, inr, ⊎_elim, Bool, List, [], ◌∷◌, ◌++◌, Some, refl, sym, ap, ◌∙◌, subst, arith, length, slice_get, append_assoc}
use Rattle.std.proofs.lemmas.List.Sums.{sum_by-append}
use Rattle.zo_core.specs.Literals.{Literal}
use Rattle.conflict_proof.specs.declared.names.ConstraintName.{ConstraintName}
use Rattle.conflict_proof.specs.declared.derivation.How.{How}
use Rattle.conflict_proof.specs.declared.derivation.How.TheVariants.{Axiom, Resolve, Inst}
use Rattle.conflict_proof.specs.declared.derivation.Line.{Line}
use Rattle.verdict_meaning.specs.Systems.{System}
use Rattle.verdict_meaning.specs.Derivations.{line_at, line_cost, cost_of, IsRight, IsRightLine, IsValidIn, NoClauseTwice}
use Rattle.call_search.specs.Indexes.{Ledger}
use Rattle.call_search.specs.Ledgers.{IsLedger, Extends, IsNew}

pub get-push_cases : (xs : List Line) (y x : Line) (n : ℕ) → slice_get (xs ++ y ∷ []) n ≡ Some x → (slice_get xs n ≡ Some x) ⊎ ((n ≡ length xs) × (y ≡ x))
get-push_cases [] y x zero e = inr (refl, one y x e)
  where
    one : (a b : Line) → Some a ≡ Some b → a ≡ b
    one a b e = cc
get-push_cases [] y x (suc n) e = cc
get-push_cases (z ∷ xs) y x zero e = inl e
get-push_cases (z ∷ xs) y x (suc n) e =
    ⊎_elim (λ (h : slice_get xs n ≡ Some x). inl h) (λ (h : (n ≡ length xs) × (y ≡ x)). inr (omega arith, h.1)) (get-push_cases xs y x n e)

pub get-push_same : (xs : List Line) (y : Line) → slice_get (xs ++ y ∷ []) (length xs) ≡ Some y
get-push_same [] y = refl
get-push_same (x ∷ xs) y = get-push_same xs y

pub get-append : (xs ys : List Line) (x : Line) (n : ℕ) → slice_get xs n ≡ Some x → slice_get (xs ++ ys) n ≡ Some x
get-append [] ys x n e = cc
get-append (z ∷ xs) ys x zero e = e
get-append (z ∷ xs) ys x (suc n) e = get-append xs ys x n e

pub get-within : (xs : List Line) (x : Line) (n : ℕ) → slice_get xs n ≡ Some x → n < length xs
get-within [] x n e = cc
get-within (z ∷ xs) x zero e = omega arith
get-within (z ∷ xs) x (suc n) e = let h = get-within xs x n e in omega arith

pub line-append : (xs ys : List Line) (x : Line) (n : ℕ) → line_at xs n ≡ Some x → line_at (xs ++ ys) n ≡ Some x
line-append xs ys x zero e = cc
line-append xs ys x (suc n) e = get-append xs ys x n e

pub right-more : (s : System) (U : ConstraintName → Bool) (xs ys : List Line) (n g : ℕ) (how : How) (c : List Literal) → IsRight s U xs n g how c → IsRight s U (xs ++ ys) n g how c
right-more s U xs ys n g (Axiom name) c r = r
right-more s U xs ys n g (Resolve i j) c r = record {
  first = r.first;
  second = r.second;
  first_at = line-append xs ys r.first i r.first_at;
  second_at = line-append xs ys r.second j r.second_at;
  first_earlier = r.first_earlier;
  second_earlier = r.second_earlier;
  first_group = r.first_group;
  second_group = r.second_group;
  resolvent = r.resolvent;
}
right-more s U xs ys n g (Inst i site) c r = record {
  site_there = r.site_there;
  line = r.line;
  there = line-append xs ys r.line i r.there;
  earlier = r.earlier;
  group = r.group;
  lits = r.lits;
  is_carried = r.is_carried;
  in_order = r.in_order;
}

pub right_line-more : (s : System) (U : ConstraintName → Bool) (xs ys : List Line) (n : ℕ) (x : Line) → IsRightLine s U xs n x → IsRightLine s U (xs ++ ys) n x
right_line-more s U xs ys n x r = record { group = r.group; clause = r.clause; right = right-more s U xs ys n x.group x.how x.lits r.right }

pub valid-push : (s : System) (U : ConstraintName → Bool) (xs : List Line) (y : Line) → IsValidIn s U xs → IsRightLine s U xs (suc (length xs)) y → IsValidIn s U (xs ++ y ∷ [])
valid-push s U xs y valid right zero line at = cc
valid-push s U xs y valid right (suc n) line at =
    ⊎_elim (λ (old : slice_get xs n ≡ Some line). right_line-more s U xs (y ∷ []) (suc n) line (valid (suc n) line old))
    (λ (e : (n ≡ length xs) × (y ≡ line)).
    subst (λ (x : Line). IsRightLine s U (xs ++ y ∷ []) (suc n) x) e.1
    (subst (λ m. IsRightLine s U (xs ++ y ∷ []) (suc m) y) (sym e.0) (right_line-more s U xs (y ∷ []) (suc (length xs)) y right)))
    (get-push_cases xs y line n at)

pub once-push : (xs : List Line) (y : Line) → NoClauseTwice xs → IsNew xs y.group y.lits → NoClauseTwice (xs ++ y ∷ [])
once-push xs y once new n m a b p q g c =
    ⊎_elim
    (λ (i : slice_get xs n ≡ Some a). ⊎_elim
    (λ (j : slice_get xs m ≡ Some b). once n m a b i j g c)
    (λ (j : (m ≡ length xs) × (y ≡ b)). absurd (new (suc n) a i (g ∙ ap (λ (x : Line). x.group) (sym j.1)) (c ∙ ap (λ (x : Line). x.lits) (sym j.1))))
    (get-push_cases xs y b m q))
    (λ (i : (n ≡ length xs) × (y ≡ a)). ⊎_elim
    (λ (j : slice_get xs m ≡ Some b). absurd (new (suc m) b j (sym g ∙ ap (λ (x : Line). x.group) (sym i.1)) (sym c ∙ ap (λ (x : Line). x.lits) (sym i.1))))
    (λ (j : (m ≡ length xs) × (y ≡ b)). i.0 ∙ sym j.0)
    (get-push_cases xs y b m q))
    (get-push_cases xs y a n p)

pub cost-append : (xs ys : List Line) → cost_of (xs ++ ys) ≡ cost_of xs + cost_of ys
cost-append xs ys = sum_by-append line_cost xs ys

pub ledger-push : (s : System) (U : ConstraintName → Bool) (old new : Ledger) (y : Line) → IsLedger s U old → IsRightLine s U old.lines (suc (length old.lines)) y → IsNew old.lines y.group y.lits
    → new.lines ≡ old.lines ++ y ∷ [] → new.words + line_cost y ≡ old.words → Extends s U old new
ledger-push s U old new y l right fresh lines words =
    let paid : cost_of new.lines + new.words ≡ cost_of old.lines + old.words = let a = cost-append old.lines (y ∷ []) in let b = ap cost_of lines in omega arith in
    let small : cost_of old.lines + old.words < 2 ^ 32 = l.small in
    record {
      more = y ∷ [];
      is = lines;
      paid = paid;
      ledger = record {
        valid = subst (λ (ls : List Line). IsValidIn s U ls) (sym lines) (valid-push s U old.lines y l.valid right);
        once = subst (λ (ls : List Line). NoClauseTwice ls) (sym lines) (once-push old.lines y l.once fresh);
        small = omega arith;
      };
    }

pub no-more : (s : System) (U : ConstraintName → Bool) (old new : Ledger) → IsLedger s U old → new ≡ old → Extends s U old new
no-more s U old new l e = subst (λ (n : Ledger). Extends s U old n) (sym e) (record { more = []; is = sym (append-nil old.lines); paid = refl; ledger = l })
  where
    append-nil : (xs : List Line) → xs ++ [] ≡ xs
    append-nil [] = refl
    append-nil (x ∷ xs) = ap (λ (ys : List Line). x ∷ ys) (append-nil xs)

pub extends-trans : (s : System) (U : ConstraintName → Bool) (a b c : Ledger) → Extends s U a b → Extends s U b c → Extends s U a c
extends-trans s U a b c p q = record {
  more = p.more ++ q.more;
  is = q.is ∙ ap (λ ls. ls ++ q.more) p.is ∙ append_assoc a.lines p.more q.more;
  paid = q.paid ∙ p.paid;
  ledger = q.ledger;
}
