-- The system of a program is that of its graph.
use Rattle.std.proofs.Common.{◌≡◌, ℕ, zero, suc, ◌<◌, ◌⊎◌, inl, inr, ⊎_elim, Bool, true, false, cond, ◌||◌, ◌&&◌, List, [], ◌∷◌, ◌++◌, refl, sym, ap, ◌∙◌, subst, arith, length, map, get_or}
use Rattle.std.specs.Prelude.{◌↔◌, IsTrue, nat_eq, option_map}
use Rattle.std.specs.List.{All, Contains, flat_map}
use Rattle.std.specs.List.Sorted.{IsStrictlyIncreasing}
use Rattle.std.proofs.lemmas.Bool.{ne_eqb}
use Rattle.std.proofs.lemmas.List.{length-map}
use Rattle.std.proofs.lemmas.List.Elements.{Contains-append_cases, All-contains}
use Rattle.zo_core.specs.Literals.{Literal}
use Rattle.zo_core.specs.Truth.{clause_true, all_true}
use Rattle.conflict_proof.specs.declared.names.ConstraintName.{ConstraintName}
use Rattle.flow_graph.specs.FlowGraph.{FlowGraph}
use Rattle.flow_graph.specs.Fits.{IsFlowGraph}
use Rattle.path_facts.specs.Tables.{FactTables}
use Rattle.recursion_groups.specs.Grouping.{IsGroup, IsOrdered, IsGrouping}
use Rattle.owner_vars.specs.Unknowns.{site_callees}
use Rattle.owner_vars.specs.Laws.{SitesAreNumbered, NumbersFollow, RootNumbersFollow}
use Rattle.transfer_rules.specs.declared.constraint.Constraint.{Constraint}
use Rattle.transfer_rules.specs.Body.{sight, setting}
use Rattle.transfer_rules.specs.Rules.{constraints, body_of}
use Rattle.transfer_rules.specs.Names.{name_of, names, condition_clauses, all_clauses, clauses_of_name}
use Rattle.transfer_rules.specs.Holds.{Each, ProcHolds, GroupHolds}
use Rattle.verdict_meaning.specs.declared.callee.Callee.{Callee}
use Rattle.verdict_meaning.specs.Systems.{System, root, members, names_of}
use Rattle.verdict_meaning.specs.Solutions.{IsLocal, all_names}
use Rattle.verdict_meaning.specs.Programs.{callee_in, clauses_found, system_of, root_callees, IsSystemOf}
use Rattle.verdict_meaning.proofs.Conditions.{names_apart}
use Rattle.verdict_meaning.proofs.Numbers.{own_sites, called_is, numbers_agree, root_numbers_agree}

-- Groups

group_is : (g : FlowGraph) (done : List ℕ) (groups : List (List ℕ)) → IsOrdered g done groups → (e : ℕ) → e < length groups → IsGroup g (get_or groups e [])
group_is g done [] ordered e lt = absurd (omega arith)
group_is g done (ms ∷ groups) ordered zero lt = ordered.0.group
group_is g done (ms ∷ groups) ordered (suc e) lt = group_is g (done ++ ms) groups ordered.1 e (omega arith)

-- a procedure with a body is done, or in some group
in_some : (g : FlowGraph) (done : List ℕ) (groups : List (List ℕ)) → IsOrdered g done groups → (k : ℕ) → k < g.bodies → Contains done k ⊎ ((e : ℕ) × (e < length groups) × Contains (get_or groups e []) k)
in_some g done [] ordered k small = inl (ordered k small)
in_some g done (ms ∷ groups) ordered k small =
    ⊎_elim
    (λ (h : Contains (done ++ ms) k). ⊎_elim (λ (d : Contains done k). inl d) (λ (m : Contains ms k). inr (0, omega arith, m)) (Contains-append_cases done ms k h))
    (λ (h : (e : ℕ) × (e < length groups) × Contains (get_or groups e []) k). inr (suc h.0, (let lt = h.1 in omega arith), h.2))
    (in_some g (done ++ ms) groups ordered.1 k small)

some_group : (g : FlowGraph) (groups : List (List ℕ)) → IsGrouping g groups → (k : ℕ) → k < g.bodies → (e : ℕ) × (e < length groups) × Contains (get_or groups e []) k
some_group g groups grouping k small =
    ⊎_elim (λ (h : Contains [] k). absurd (let lt = h.1 in omega arith)) (λ (h : (e : ℕ) × (e < length groups) × Contains (get_or groups e []) k). h) (in_some g [] groups grouping k small)

-- Clauses

and_true : (a b : Bool) → a ≡ true → b ≡ true → (a && b) ≡ true
and_true true b e f = f
and_true false b e f = cc

and_first : (a b : Bool) → (a && b) ≡ true → a ≡ true
and_first true b e = refl
and_first false b e = cc

and_second : (a b : Bool) → (a && b) ≡ true → b ≡ true
and_second true b e = e
and_second false b e = cc

or_true : (a : Bool) → (a || true) ≡ true
or_true true = refl
or_true false = refl

all_joined : (t : ℕ → Bool) (xs ys : List (List Literal)) → all_true t xs ≡ true → all_true t ys ≡ true → all_true t (xs ++ ys) ≡ true
all_joined t [] ys e f = f
all_joined t (x ∷ xs) ys e f =
    and_true (clause_true t x) (all_true t (xs ++ ys)) (and_first (clause_true t x) (all_true t xs) e) (all_joined t xs ys (and_second (clause_true t x) (all_true t xs) e) f)

all_gathered : {X : Type 0} (t : ℕ → Bool) (f : X → List (List Literal)) (xs : List X) → ((x : X) → Contains xs x → all_true t (f x) ≡ true) → all_true t (flat_map f xs) ≡ true
all_gathered t f [] each = refl
all_gathered t f (x ∷ xs) each = all_joined t (f x) (flat_map f xs) (each x (0, omega arith, refl)) (all_gathered t f xs (λ y there. each y (suc there.0, (let lt = there.1 in omega arith), there.2)))

-- P of each of these is P of one of them
one_of : (P : ℕ → Type 0) (ms : List ℕ) → Each P ms → (k : ℕ) → Contains ms k → P k
one_of P [] each k there = absurd (let lt = there.1 in omega arith)
one_of P (m ∷ ms) each k (zero, lt, e) = subst P e each.0
one_of P (m ∷ ms) each k (suc i, lt, e) = one_of P ms each.1 k (i, omega arith, e)

named : (cs : List Constraint) (c : Constraint) → Contains cs c → Contains (map name_of cs) c.name
named [] c there = absurd (let lt = there.1 in omega arith)
named (d ∷ cs) c (zero, lt, e) = (0, omega arith, ap name_of e)
named (d ∷ cs) c (suc i, lt, e) = let rest = named cs c (i, omega arith, e) in (suc rest.0, (let small = rest.1 in omega arith), rest.2)

module _ (g : FlowGraph) (facts : FactTables) (groups : List (List ℕ)) (graph : IsFlowGraph g) (grouping : IsGrouping g groups)
    (follow : (ms : List ℕ) → IsStrictlyIncreasing ms → NumbersFollow g ms)
    (root_follow : (firsts : List ℕ) → RootNumbersFollow g firsts)
    (sites : (ms : List ℕ) → IsStrictlyIncreasing ms → All (λ (k : ℕ). k < g.bodies) ms → SitesAreNumbered g ms)
    (rules : (ms : List ℕ) (t : ℕ → Bool) → IsTrue (all_true t (all_clauses (constraints g facts ms))) ↔ GroupHolds g facts ms t) where
  abbrev s : System
  s = system_of g facts groups

  abbrev clauses : List ℕ → ConstraintName → List (List Literal)
  clauses ms n = clauses_found (clauses_of_name g facts ms n)

  group : (e : ℕ) → e < root s → IsGroup g (members s e)
  group e lower = group_is g [] groups grouping e lower

  follows : (e : ℕ) → e < root s → NumbersFollow g (members s e)
  follows e lower = follow (members s e) (group e lower).ascend

  own_names : (e : ℕ) → e < root s → names_of s e ≡ s.names e
  own_names e lower = pick (nat_eq e (root s)) (ne_eqb e (root s) (omega arith))
    where
      pick : (b : Bool) → b ≡ false → cond b [] (s.names e) ≡ s.names e
      pick true is = cc
      pick false is = refl

  rules_hold : (e k : ℕ) (t : ℕ → Bool) → e < root s → IsLocal s all_names e t → Contains (members s e) k → ProcHolds (sight (body_of g facts (members s e) k)) (setting (body_of g facts (members s e) k)) t
  rules_hold e k t lower local member =
      one_of (λ (j : ℕ). ProcHolds (sight (body_of g facts (members s e) j)) (setting (body_of g facts (members s e) j)) t) (members s e)
      ((rules (members s e) t).0 (all_gathered t (λ (c : Constraint). condition_clauses c.condition) (constraints g facts (members s e)) met)) k member
    where
      met : (c : Constraint) → Contains (constraints g facts (members s e)) c → all_true t (condition_clauses c.condition) ≡ true
      met c there =
          let found : s.clauses e c.name ≡ condition_clauses c.condition = ap (λ o. clauses_found (option_map condition_clauses o)) (names_apart g facts (members s e) c there) in
          let name_there : Contains (names_of s e) c.name = subst (λ (ns : List ConstraintName). Contains ns c.name) (sym (own_names e lower)) (named (constraints g facts (members s e)) c there) in
          ap (all_true t) (sym found) ∙ local c.name name_there (or_true (nat_eq c.name.rule 21))

  pub is_of_graph : IsSystemOf g facts s
  is_of_graph = record {
    fields = refl;
    field = λ e f lower some within. (follows e lower).phi f some within;
    numbers = λ e lower. numbers_agree g groups (names g facts) clauses e lower (follows e lower);
    root_numbers = root_numbers_agree g groups (names g facts) clauses (root_follow (root_callees s));
    sites = λ e lower. sites (members s e) (group e lower).ascend (group e lower).bodies;
    count = λ e lower. ap length (own_sites g groups (names g facts) clauses e lower (follows e lower)) ∙ length-map (site_callees g (members s e)) (callee_in groups);
    called = λ e site lower lt. ap (λ (c : Callee). c.proc) (called_is g groups (names g facts) clauses e lower (follows e lower) site lt);
    bodies = λ e k lower member. All-contains (λ (j : ℕ). j < g.bodies) (members s e) k (group e lower).bodies member;
    main = some_group g groups grouping g.main_proc graph.main_body;
    rules = rules_hold;
  }
