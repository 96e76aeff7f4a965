-- An assignment makes the clauses of the names in force true exactly where it meets their constraints.
use Rattle.std.proofs.Common.{◌≡◌, ℕ, Bool, true, false, cond, ◌&&◌, List, [], ◌∷◌, ◌++◌, Some, refl, sym, ap, subst, ◌∙◌, ◌↔◌, eqb}
use Rattle.std.specs.Prelude.{IsTrue, map}
use Rattle.std.specs.List.Sorted.{IsStrictlyIncreasing}
use Rattle.std.proofs.lemmas.Bool.{eqb-true, and_parts}
use Rattle.zo_core.specs.Literals.{Literal}
use Rattle.zo_core.specs.Truth.{all_true}
use Rattle.zo_core.specs.Values.{all_true-append}
use Rattle.field_rules.specs.Laws.{forms_law}
use Rattle.conflict_proof.specs.declared.names.ConstraintName.{ConstraintName}
use Rattle.flow_graph.specs.FlowGraph.{FlowGraph}
use Rattle.path_facts.specs.Tables.{FactTables}
use Rattle.transfer_rules.specs.declared.constraint.Condition.{Condition}
use Rattle.transfer_rules.specs.declared.constraint.Constraint.{Constraint}
use Rattle.transfer_rules.specs.declared.scope.Scope.{Scope}
use Rattle.transfer_rules.specs.Rules.{constraints}
use Rattle.transfer_rules.specs.Names.{NamedClause, name_of, names, is_name, is_in_force, condition_in, condition_forms, condition_clauses, ConditionHolds, named_clause, named_clauses, clauses_if, clauses_in, group_clauses, lits_of, NamesHold, AllInForce}
use Rattle.transfer_rules.specs.Holds.{Each, GroupHolds}
use Rattle.transfer_rules.proofs.EachLemmas.{both_true}
use Rattle.transfer_rules.proofs.Listed.{each-all}
use Rattle.transfer_rules.proofs.NameLemmas.{map_append}
use Rattle.transfer_rules.proofs.RuleLaws.{Met}
use Rattle.transfer_rules.proofs.GroupLaws.{clauses_law, group_law}
use Rattle.transfer_rules.proofs.GroupAscent.{each_from_all, group_rises, finds_itself}

abbrev name : ℕ → ℕ → ℕ → ℕ → ℕ → ℕ → ℕ → ConstraintName
name a b c d e f g = record { proc = a; place = b; edge = c; rule = d; slot = e; field = f; other = g }

same_parts : (a b c d e f g h i j k l m n : ℕ) → a ≡ h → b ≡ i → c ≡ j → d ≡ k → e ≡ l → f ≡ m → g ≡ n → name a b c d e f g ≡ name h i j k l m n
same_parts a b c d e f g h i j k l m n p q r s t u v = cc

same_name : (m n : ConstraintName) → is_name m n ≡ true → m ≡ n
same_name m n e =
    let a = and_parts (eqb m.proc n.proc) _ e in
    let b = and_parts (eqb m.place n.place) _ a.1 in
    let c = and_parts (eqb m.edge n.edge) _ b.1 in
    let d = and_parts (eqb m.rule n.rule) _ c.1 in
    let f = and_parts (eqb m.slot n.slot) _ d.1 in
    let g = and_parts (eqb m.field n.field) _ f.1 in
    let h = and_parts (eqb m.other n.other) _ g.1 in
    same_parts m.proc m.place m.edge m.rule m.slot m.field m.other n.proc n.place n.edge n.rule n.slot n.field n.other
    (eqb-true m.proc n.proc a.0) (eqb-true m.place n.place b.0) (eqb-true m.edge n.edge c.0) (eqb-true m.rule n.rule d.0) (eqb-true m.slot n.slot f.0) (eqb-true m.field n.field g.0) (eqb-true m.other n.other h.0)

module _ (s : Scope) (t : ℕ → Bool) where
  abbrev MetInForce : Constraint → Type 0
  MetInForce c = is_in_force s c.name ≡ true → Met t c

  lits_of-named : (n : ConstraintName) (cs : List (List Literal)) → lits_of (map (named_clause n) cs) ≡ cs
  lits_of-named n [] = refl
  lits_of-named n (c ∷ cs) = ap (λ zs. c ∷ zs) (lits_of-named n cs)

  one_law : (c : Constraint) (b : Bool) → (IsTrue (all_true t (lits_of (cond b (named_clauses c) []))) ↔ (b ≡ true → Met t c))
  one_law c true =
      let law = forms_law (condition_forms c.condition) t in
      let is : lits_of (named_clauses c) ≡ condition_clauses c.condition = lits_of-named c.name (condition_clauses c.condition) in
      let same : all_true t (lits_of (named_clauses c)) ≡ all_true t (condition_clauses c.condition) = ap (all_true t) is in
      ((λ h e. law.0 (sym same ∙ h)), (λ h. same ∙ law.1 (h refl)))
  one_law c false = ((λ h e. cc), (λ h. refl))

  in_force_law : (cs : List Constraint) → (IsTrue (all_true t (lits_of (clauses_in s cs))) ↔ Each MetInForce cs)
  in_force_law [] = ((λ _. tt), (λ _. refl))
  in_force_law (c ∷ cs) =
      let parts : lits_of (clauses_if s c ++ clauses_in s cs) ≡ lits_of (clauses_if s c) ++ lits_of (clauses_in s cs) = map_append (λ (d : NamedClause). d.lits) (clauses_if s c) (clauses_in s cs) in
      let e : all_true t (lits_of (clauses_if s c ++ clauses_in s cs)) ≡ (all_true t (lits_of (clauses_if s c)) && all_true t (lits_of (clauses_in s cs))) =
      ap (all_true t) parts ∙ all_true-append t (lits_of (clauses_if s c)) (lits_of (clauses_in s cs)) in
      let a = both_true (all_true t (lits_of (clauses_if s c))) (all_true t (lits_of (clauses_in s cs))) in
      let one = one_law c (is_in_force s c.name) in
      let more = in_force_law cs in
      ((λ h. let b = a.0 (sym e ∙ h) in (one.0 b.0, more.0 b.1)), (λ h. e ∙ a.1 (one.1 h.0, more.1 h.1)))

  -- what a name finds is met
  found_holds : (cs : List Constraint) → Each MetInForce cs → (n : ConstraintName) (c : Condition) → is_in_force s n ≡ true → condition_in cs n ≡ Some c → ConditionHolds c t
  found_holds [] h n c on e = cc
  found_holds (d ∷ ds) h n c on e = by (is_name d.name n) refl e (found_holds ds h.1 n c on)
    where
      one : (x y : Condition) → Some x ≡ Some y → x ≡ y
      one x y q = cc

      by : (b : Bool) → is_name d.name n ≡ b → cond b (Some d.condition) (condition_in ds n) ≡ Some c → (condition_in ds n ≡ Some c → ConditionHolds c t) → ConditionHolds c t
      by true is q later = subst (λ (x : Condition). ConditionHolds x t) (one d.condition c q) (h.0 (ap (is_in_force s) (same_name d.name n is) ∙ on))
      by false is q later = later q

  module _ (g : FlowGraph) (ts : FactTables) (members : List ℕ) where
    pub scope_law : IsStrictlyIncreasing members → (IsTrue (all_true t (lits_of (group_clauses g ts members s))) ↔ NamesHold g ts members s t)
    scope_law up =
        let a = in_force_law (constraints g ts members) in
        let own = finds_itself (constraints g ts members) (group_rises g ts members up) in (
          (λ h. found_holds (constraints g ts members) (a.0 h)),
          (λ h. a.1 (each-all (λ (d : Constraint). condition_in (constraints g ts members) d.name ≡ Some d.condition) MetInForce (constraints g ts members) (λ d finds on. h d.name d.condition on finds) own)),
        )

    without_scope : (cs : List Constraint) → Each (λ n. is_in_force s n ≡ true) (map name_of cs) → (Each MetInForce cs ↔ Each (Met t) cs)
    without_scope [] h = ((λ _. tt), (λ _. tt))
    without_scope (c ∷ cs) h = let more = without_scope cs h.1 in ((λ k. (k.0 h.0, more.0 k.1)), (λ k. ((λ _. k.0), more.1 k.1)))

    pub whole_law : AllInForce g ts members s → (IsTrue (all_true t (lits_of (group_clauses g ts members s))) ↔ GroupHolds g ts members t)
    whole_law all =
        let a = in_force_law (constraints g ts members) in
        let b = without_scope (constraints g ts members) (each_from_all (λ n. is_in_force s n ≡ true) (names g ts members) all) in
        let c = clauses_law t (constraints g ts members) in
        let d = group_law g ts members t in
        ((λ h. d.0 (c.1 (b.0 (a.0 h)))), (λ h. a.1 (b.1 (c.0 (d.1 h)))))
