-- The constraint of a name.
use Rattle.std.proofs.Common.{◌≡◌, ℕ, zero, suc, ◌<◌, Bool, true, false, cond, ◌||◌, List, [], ◌∷◌, Option, Some, None, Result, Ok, Err, refl, sym, ap, ◌∙◌, subst, arith, map}
use Rattle.std.specs.Prelude.{nat_eq, option_map, MatchOption, IfOk}
use Rattle.std.specs.List.{Contains}
use Rattle.std.proofs.lemmas.Bool.{ne_eqb}
use Rattle.zo_core.specs.Literals.{Literal}
use Rattle.conflict_proof.specs.declared.names.ConstraintName.{ConstraintName}
use Rattle.transfer_rules.specs.declared.constraint.Condition.{Condition}
use Rattle.transfer_rules.specs.declared.constraint.Constraint.{Constraint}
use Rattle.transfer_rules.specs.Names.{is_name, name_of, condition_in, condition_clauses, clauses_of_name}
use Rattle.transfer_rules.specs.Programs.{Parts, group_at}
use Rattle.transfer_rules.specs.Rules.{constraints}
use Rattle.verdict_meaning.specs.Systems.{root, names_of}
use Rattle.verdict_meaning.specs.Solutions.{counts, all_names}
use Rattle.verdict_meaning.specs.Programs.{clauses_found, system_in}
use Rattle.verdict_meaning.proofs.Conditions.{same_name, itself}

differ : true ≡ false → ⊥
differ e = cc

-- a name is found where it is there
found : (cs : List Constraint) (n : ConstraintName) (c : Condition) → condition_in cs n ≡ Some c → Contains (map name_of cs) n
found [] n c e = cc
found (d ∷ cs) n c e = by_name (is_name d.name n) refl e (found cs n c)
  where
    by_name : (b : Bool) → is_name d.name n ≡ b → cond b (Some d.condition) (condition_in cs n) ≡ Some c → (condition_in cs n ≡ Some c → Contains (map name_of cs) n) → Contains (map name_of (d ∷ cs)) n
    by_name true is f later = (0, omega arith, same_name d.name n is)
    by_name false is f later = let rest = later f in (suc rest.0, (let lt = rest.1 in omega arith), rest.2)

missing : (cs : List Constraint) (n : ConstraintName) → condition_in cs n ≡ None → Contains (map name_of cs) n → ⊥
missing [] n e there = let lt = there.1 in omega arith
missing (d ∷ cs) n e there = by_name (is_name d.name n) refl e there (missing cs n)
  where
    by_name : (b : Bool) → is_name d.name n ≡ b → cond b (Some d.condition) (condition_in cs n) ≡ None → Contains (map name_of (d ∷ cs)) n → (condition_in cs n ≡ None → Contains (map name_of cs) n → ⊥) → ⊥
    by_name true is f h later = cc
    by_name false is f (zero, lt, same) later = differ (sym (itself n) ∙ ap (λ (x : ConstraintName). is_name x n) (sym same) ∙ is)
    by_name false is f (suc k, lt, same) later = later f (k, omega arith, same)

own_names : (p : Parts) (e : ℕ) → e < root (system_in p) → names_of (system_in p) e ≡ map name_of (constraints p.graph p.facts (group_at p.groups e))
own_names p e lt = pick (nat_eq e (root (system_in p))) (ne_eqb e (root (system_in p)) (omega arith))
  where
    pick : (b : Bool) → b ≡ false → cond b [] (map name_of (constraints p.graph p.facts (group_at p.groups e))) ≡ map name_of (constraints p.graph p.facts (group_at p.groups e))
    pick true is = cc
    pick false is = refl

inside : (o : Option Condition) → option_map condition_clauses o ≡ None → o ≡ None
inside None e = refl
inside (Some c) e = cc

-- the condition that was found
some_condition : (o : Option Condition) (cs : List (List Literal)) → option_map condition_clauses o ≡ Some cs → (c : Condition) × (o ≡ Some c)
some_condition None cs e = cc
some_condition (Some c) cs e = (c, refl)

pub no_clauses : (p : Parts) (e : ℕ) (n : ConstraintName) → e < root (system_in p) → clauses_of_name p.graph p.facts (group_at p.groups e) n ≡ None → Contains (names_of (system_in p) e) n → ⊥
no_clauses p e n lt none there =
    let cs : List Constraint = constraints p.graph p.facts (group_at p.groups e) in
    missing cs n (inside (condition_in cs n) none) (subst (λ (ns : List ConstraintName). Contains ns n) (own_names p e lt) there)

pub some_clauses : (p : Parts) (e : ℕ) (n : ConstraintName) (cs : List (List Literal)) → e < root (system_in p) → clauses_of_name p.graph p.facts (group_at p.groups e) n ≡ Some cs
    → Contains (names_of (system_in p) e) n × (cs ≡ (system_in p).clauses e n)
some_clauses p e n cs lt some =
    let all : List Constraint = constraints p.graph p.facts (group_at p.groups e) in
    let c = some_condition (condition_in all n) cs some in
    (subst (λ (ns : List ConstraintName). Contains ns n) (sym (own_names p e lt)) (found all n c.0 c.1), ap clauses_found (sym some))

pub all_count : (n : ConstraintName) → true ≡ counts all_names n
all_count n = by_rule (nat_eq n.rule 21)
  where
    by_rule : (b : Bool) → true ≡ (b || true)
    by_rule true = refl
    by_rule false = refl

module _ {X : Type 0} (items : X → List (List Literal)) (p : Parts) (e : ℕ) (n : ConstraintName) (lt : e < root (system_in p)) where
  -- what is found in the group's list
  abbrev pub Found : Option X → Type 0
  Found o = MatchOption o (clauses_of_name p.graph p.facts (group_at p.groups e) n ≡ None) (λ cs. clauses_of_name p.graph p.facts (group_at p.groups e) n ≡ Some (items cs))

  -- is what the system has
  abbrev pub Known : Option X → Type 0
  Known o = MatchOption o (Contains (names_of (system_in p) e) n → ⊥) (λ cs. Contains (names_of (system_in p) e) n × (items cs ≡ (system_in p).clauses e n))

  looked_up : (o : Option X) → Found o → Known o
  looked_up None h = no_clauses p e n lt h
  looked_up (Some cs) h = some_clauses p e n (items cs) lt h

  pub answered : {E : Type 0} (r : Result (Option X) E) → IfOk r Found → IfOk r Known
  answered (Ok o) h = looked_up o h
  answered (Err e') h = tt
