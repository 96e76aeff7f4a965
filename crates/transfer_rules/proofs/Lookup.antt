-- Looking up a name among constraints that are listed in parts.
use Rattle.std.proofs.Common.{◌≡◌, ℕ, zero, suc, ◌<◌, Bool, true, false, cond, ◌||◌, ◌≤◌, List, [], ◌∷◌, ◌++◌, Option, Some, None, refl, sym, ap, ◌∙◌, arith, eqb, ltb}
use Rattle.std.proofs.lemmas.Bool.{eqb-true, eqb-false, lt-ltb, le-ltb, ltb-true, ltb-false}
use Rattle.std.specs.List.{flat_map}
use Rattle.flow_graph.specs.Fits.{is_in}
use Rattle.conflict_proof.specs.declared.names.ConstraintName.{ConstraintName}
use Rattle.field_rules.specs.Lists.{gather}
use Rattle.transfer_rules.specs.declared.constraint.Condition.{Condition}
use Rattle.transfer_rules.specs.declared.constraint.Constraint.{Constraint}
use Rattle.transfer_rules.specs.Names.{is_name, condition_in}
use Rattle.transfer_rules.specs.Holds.{Each}
use Rattle.transfer_rules.proofs.EachLemmas.{both_true}

abbrev pub or_else : Option Condition → Option Condition → Option Condition
or_else None o = o
or_else (Some c) o = Some c

first : (b : Bool) (c : Condition) (o p q : Option Condition) → o ≡ or_else p q → cond b (Some c) o ≡ or_else (cond b (Some c) p) q
first true c o p q e = refl
first false c o p q e = e

pub lookup-append : (xs ys : List Constraint) (n : ConstraintName) → condition_in (xs ++ ys) n ≡ or_else (condition_in xs n) (condition_in ys n)
lookup-append [] ys n = refl
lookup-append (x ∷ xs) ys n = first (is_name x.name n) x.condition (condition_in (xs ++ ys) n) (condition_in xs n) (condition_in ys n) (lookup-append xs ys n)

-- Two names that are one have one procedure, one place and one slot.

pub one_proc : (m n : ConstraintName) → is_name m n ≡ true → m.proc ≡ n.proc
one_proc m n e = eqb-true m.proc n.proc ((both_true (eqb m.proc n.proc) _).0 e).0

pub one_place : (m n : ConstraintName) → is_name m n ≡ true → m.place ≡ n.place
one_place m n e =
    let a = (both_true (eqb m.proc n.proc) _).0 e in
    eqb-true m.place n.place ((both_true (eqb m.place n.place) _).0 a.1).0

pub one_slot : (m n : ConstraintName) → is_name m n ≡ true → m.slot ≡ n.slot
one_slot m n e =
    let a = (both_true (eqb m.proc n.proc) _).0 e in
    let b = (both_true (eqb m.place n.place) _).0 a.1 in
    let c = (both_true (eqb m.edge n.edge) _).0 b.1 in
    let d = (both_true (eqb m.rule n.rule) _).0 c.1 in
    eqb-true m.slot n.slot ((both_true (eqb m.slot n.slot) _).0 d.1).0

pub or_none : (o : Option Condition) → or_else o None ≡ o
or_none None = refl
or_none (Some c) = refl

or_twice : (o : Option Condition) (b : Bool) → or_else o (cond b o None) ≡ o
or_twice None true = refl
or_twice None false = refl
or_twice (Some c) b = refl

-- a part of names that two names share where they are one
module _ (key : ConstraintName → ℕ) (n : ConstraintName) (one : (m : ConstraintName) → is_name m n ≡ true → key m ≡ key n) where
  differs : (m : ConstraintName) → (key m ≡ key n → ⊥) → is_name m n ≡ false
  differs m h = by (is_name m n) refl
    where
      by : (b : Bool) → is_name m n ≡ b → b ≡ false
      by true e = absurd (h (one m e))
      by false e = refl

  -- among constraints with another part it is not found
  pub lookup-other : (x : ℕ) (cs : List Constraint) → Each (λ c. key c.name ≡ x) cs → (x ≡ key n → ⊥) → condition_in cs n ≡ None
  lookup-other x [] h ne = refl
  lookup-other x (c ∷ cs) h ne = rw (differs c.name (λ e. ne (sym h.0 ∙ e))) (lookup-other x cs h.1 ne)

  last : (k : ℕ) (f : ℕ → List Constraint) → ((x : ℕ) → Each (λ c. key c.name ≡ x) (f x)) → (b : Bool) → ltb (key n) k ≡ b → (c : Bool) → eqb k (key n) ≡ c
      → or_else (cond b (condition_in (f (key n)) n) None) (condition_in (f k) n) ≡ cond (ltb (key n) (suc k)) (condition_in (f (key n)) n) None
  last k f h true e c d =
      let lt : key n < k = ltb-true (key n) k e in
      let ne : (k ≡ key n → ⊥) = λ q. omega arith in
      rw (lookup-other k (f k) (h k) ne, lt-ltb (key n) (suc k) (omega arith)) (or_none (condition_in (f (key n)) n))
  last k f h false e true d =
      let is : k ≡ key n = eqb-true k (key n) d in
      rw (lt-ltb (key n) (suc k) (omega arith)) (ap (λ j. condition_in (f j) n) is)
  last k f h false e false d =
      let ge : k ≤ key n = ltb-false (key n) k e in
      let ne : (k ≡ key n → ⊥) = eqb-false k (key n) d in
      rw (lookup-other k (f k) (h k) ne, le-ltb (key n) (suc k) (omega arith)) refl

  -- among the constraints with each part in turn it is found where it is found among those with its own
  pub lookup-gather : (k : ℕ) (f : ℕ → List Constraint) → ((x : ℕ) → Each (λ c. key c.name ≡ x) (f x)) → condition_in (gather k f) n ≡ cond (ltb (key n) k) (condition_in (f (key n)) n) None
  lookup-gather zero f h = rw (le-ltb (key n) 0 (omega arith)) refl
  lookup-gather (suc k) f h =
      lookup-append (gather k f) (f k) n ∙ ap (λ o. or_else o (condition_in (f k) n)) (lookup-gather k f h) ∙ last k f h (ltb (key n) k) refl (eqb k (key n)) refl

  pub lookup-flat : (ks : List ℕ) (f : ℕ → List Constraint) → ((x : ℕ) → Each (λ c. key c.name ≡ x) (f x)) → condition_in (flat_map f ks) n ≡ cond (is_in ks (key n)) (condition_in (f (key n)) n) None
  lookup-flat [] f h = refl
  lookup-flat (k ∷ ks) f h =
      lookup-append (f k) (flat_map f ks) n ∙ ap (λ o. or_else (condition_in (f k) n) o) (lookup-flat ks f h) ∙ by (eqb (key n) k) refl
    where
      by : (b : Bool) → eqb (key n) k ≡ b → or_else (condition_in (f k) n) (cond (is_in ks (key n)) (condition_in (f (key n)) n) None) ≡ cond (b || is_in ks (key n)) (condition_in (f (key n)) n) None
      by true e =
          let is : key n ≡ k = eqb-true (key n) k e in
          ap (λ j. or_else (condition_in (f j) n) (cond (is_in ks (key n)) (condition_in (f (key n)) n) None)) (sym is) ∙ or_twice (condition_in (f (key n)) n) (is_in ks (key n))
      by false e =
          let ne : (k ≡ key n → ⊥) = λ q. eqb-false (key n) k e (sym q) in
          rw (lookup-other k (f k) (h k) ne) refl
