-- The table of a group's clauses has exactly those of its constraints that count.
use Rattle.std.proofs.Common.{◌≡◌, ℕ, zero, suc, ◌<◌, ◌≤◌, inl, inr, Bool, true, false, cond, List, [], ◌∷◌, length, map, refl, sym, ap, subst, ◌∙◌, arith}
use Rattle.std.specs.Prelude.{nat_eq, option_map}
use Rattle.std.specs.List.{Contains, flat_map}
use Rattle.std.proofs.lemmas.Bool.{cases_eq, eq-eqb, ne_eqb}
use Rattle.std.proofs.lemmas.List.Elements.{Contains-append_cases, Contains-append_left, Contains-append_right}
use Rattle.zo_core.specs.Literals.{Literal}
use Rattle.conflict_proof.specs.declared.names.ConstraintName.{ConstraintName}
use Rattle.flow_graph.specs.FlowGraph.{FlowGraph}
use Rattle.path_facts.specs.Tables.{FactTables}
use Rattle.transfer_rules.specs.declared.constraint.Constraint.{Constraint}
use Rattle.transfer_rules.specs.declared.scope.Scope.{Scope}
use Rattle.transfer_rules.specs.Names.{NamedClause, named_clause, named_clauses, clauses_if, condition_clauses, group_clauses, name_of, in_scope, is_in_force}
use Rattle.transfer_rules.specs.Programs.{group_at}
use Rattle.transfer_rules.specs.Rules.{constraints}
use Rattle.verdict_meaning.specs.Systems.{System, root, names_of}
use Rattle.verdict_meaning.specs.Derivations.{IsAxiomLine}
use Rattle.verdict_meaning.specs.Programs.{clauses_found, system_of, NamesAreApart}
use Rattle.unit_answers.specs.Tables.{IsTableOf, clauses_of_group}
use Rattle.unit_answers.proofs.Places.{contains_at}

-- an element of lists that are joined is one of some of them
record Among {X Y : Type 0} (f : X → List Y) (xs : List X) (y : Y) : Type 0 where
  from : X
  there : Contains xs from
  one : Contains (f from) y

later : {X : Type 0} (x y : X) (xs : List X) → Contains xs y → Contains (x ∷ xs) y
later x y xs h = (suc h.0, (let lt = h.1 in omega arith), h.2)

among : {X Y : Type 0} (f : X → List Y) (xs : List X) (y : Y) → Contains (flat_map f xs) y → Among f xs y
among f [] y h = absurd (let lt = h.1 in omega arith)
among f (x ∷ xs) y h = elim (Contains-append_cases (f x) (flat_map f xs) y h) [
  | inl here ↦ record { from = x; there = (0, omega arith, refl); one = here }
  | inr rest ↦ let r = among f xs y rest in record { from = r.from; there = later x r.from xs r.there; one = r.one }
]

joined : {X Y : Type 0} (f : X → List Y) (xs : List X) (x : X) (y : Y) → Contains xs x → Contains (f x) y → Contains (flat_map f xs) y
joined f [] x y h one = absurd (let lt = h.1 in omega arith)
joined f (z ∷ xs) x y (zero, lt, e) one = Contains-append_left (f z) (flat_map f xs) y (subst (λ w. Contains (f w) y) (sym e) one)
joined f (z ∷ xs) x y (suc k, lt, e) one = Contains-append_right (f z) (flat_map f xs) y (joined f xs x y (k, omega arith, e) one)

mapped : {X Y : Type 0} (f : X → Y) (xs : List X) (y : Y) → Contains (map f xs) y → (x : X) × Contains xs x × (f x ≡ y)
mapped f [] y h = absurd (let lt = h.1 in omega arith)
mapped f (x ∷ xs) y (zero, lt, e) = (x, (0, omega arith, refl), e)
mapped f (x ∷ xs) y (suc k, lt, e) = let r = mapped f xs y (k, omega arith, e) in (r.0, later x r.0 xs r.1, r.2)

maps : {X Y : Type 0} (f : X → Y) (xs : List X) (x : X) → Contains xs x → Contains (map f xs) (f x)
maps f [] x h = absurd (let lt = h.1 in omega arith)
maps f (y ∷ xs) x (zero, lt, e) = (0, omega arith, ap f e)
maps f (y ∷ xs) x (suc k, lt, e) = let r = maps f xs x (k, omega arith, e) in (suc r.0, (let less = r.1 in omega arith), r.2)

-- a list that is there under a test
when_on : {X : Type 0} (b : Bool) (xs : List X) (x : X) → Contains (cond b xs []) x → (b ≡ true) × Contains xs x
when_on true xs x h = (refl, h)
when_on false xs x h = absurd (let lt = h.1 in omega arith)

on_when : {X : Type 0} (b : Bool) (xs : List X) (x : X) → b ≡ true → Contains xs x → Contains (cond b xs []) x
on_when true xs x e h = h
on_when false xs x e h = cc

module _ (g : FlowGraph) (facts : FactTables) (groups : List (List ℕ)) (scope : Scope) (e : ℕ) (lower : e < length groups) (apart : NamesAreApart g facts (group_at groups e)) where
  abbrev s : System
  s = system_of g facts groups

  abbrev all : List Constraint
  all = constraints g facts (group_at groups e)

  own_names : names_of s e ≡ map name_of all
  own_names = pick (nat_eq e (root s)) (ne_eqb e (root s) (λ same. omega arith))
    where
      pick : (b : Bool) → b ≡ false → cond b [] (s.names e) ≡ s.names e
      pick true is = cc
      pick false is = refl

  own_clauses : (c : Constraint) → Contains all c → s.clauses e c.name ≡ condition_clauses c.condition
  own_clauses c there = ap (λ o. clauses_found (option_map condition_clauses o)) (apart c there)

  row_counts : (row : NamedClause) → Contains (group_clauses g facts (group_at groups e) scope) row → IsAxiomLine s (in_scope scope) e row.name row.lits
  row_counts row h =
      let a = among (clauses_if scope) all row h in
      let on = when_on (is_in_force scope a.from.name) (named_clauses a.from) row a.one in
      let m = mapped (named_clause a.from.name) (condition_clauses a.from.condition) row on.1 in
      let row_is : named_clause a.from.name m.0 ≡ row = m.2 in
      subst (λ (r : NamedClause). IsAxiomLine s (in_scope scope) e r.name r.lits) row_is (record {
        there = subst (λ (ns : List ConstraintName). Contains ns a.from.name) (sym own_names) (maps name_of all a.from a.there);
        counting = on.0;
        clause = subst (λ (cs : List (List Literal)). Contains cs m.0) (sym (own_clauses a.from a.there)) m.1;
      })

  axiom_row : (name : ConstraintName) (c : List Literal) → IsAxiomLine s (in_scope scope) e name c → Contains (group_clauses g facts (group_at groups e) scope) (named_clause name c)
  axiom_row name c h =
      let m = mapped name_of all name (subst (λ (ns : List ConstraintName). Contains ns name) own_names h.there) in
      let one : m.0.name ≡ name = m.2 in
      let force : is_in_force scope m.0.name ≡ true = ap (is_in_force scope) one ∙ h.counting in
      let clause : Contains (condition_clauses m.0.condition) c =
      subst (λ (cs : List (List Literal)). Contains cs c) (own_clauses m.0 m.1) (subst (λ (n : ConstraintName). Contains (s.clauses e n) c) (sym one) h.clause) in
      subst (λ (n : ConstraintName). Contains (group_clauses g facts (group_at groups e) scope) (named_clause n c)) one
      (joined (clauses_if scope) all m.0 (named_clause m.0.name c) m.1
      (on_when (is_in_force scope m.0.name) (named_clauses m.0) (named_clause m.0.name c) force (maps (named_clause m.0.name) (condition_clauses m.0.condition) c clause)))

  own_rows : clauses_of_group g facts groups scope e ≡ group_clauses g facts (group_at groups e) scope
  own_rows = pick (nat_eq e (length groups)) (ne_eqb e (length groups) (λ same. omega arith))
    where
      pick : (b : Bool) → b ≡ false → cond b [] (group_clauses g facts (group_at groups e) scope) ≡ group_clauses g facts (group_at groups e) scope
      pick true is = cc
      pick false is = refl

  -- the clauses of a group's table are those of its constraints that count
  pub group_table : IsTableOf s (in_scope scope) e (group_clauses g facts (group_at groups e) scope)
  group_table = record {
    each = λ k row at. row_counts row (contains_at (group_clauses g facts (group_at groups e) scope) k row at);
    whole = axiom_row;
  }

  pub table_is : IsTableOf s (in_scope scope) e (clauses_of_group g facts groups scope e)
  table_is = subst (λ (rows : List NamedClause). IsTableOf s (in_scope scope) e rows) (sym own_rows) group_table

-- the root has none
pub root_table : (g : FlowGraph) (facts : FactTables) (groups : List (List ℕ)) (scope : Scope) → IsTableOf (system_of g facts groups) (in_scope scope) (length groups) []
root_table g facts groups scope = record { each = λ k row at. cc; whole = λ name c h. absurd (none name h.there) }
  where
    pick : (b : Bool) (ns : List ConstraintName) → b ≡ true → cond b [] ns ≡ []
    pick true ns e = refl
    pick false ns e = cc

    none : (name : ConstraintName) → Contains (names_of (system_of g facts groups) (length groups)) name → ⊥
    none name h =
        let empty : names_of (system_of g facts groups) (length groups) ≡ [] = pick (nat_eq (length groups) (length groups)) ((system_of g facts groups).names (length groups)) (eq-eqb (length groups) (length groups) refl) in
        let no = subst (λ (ns : List ConstraintName). Contains ns name) empty h in
        absurd (let lt = no.1 in omega arith)

-- the table of each group, and of the root
pub root_rows : (g : FlowGraph) (facts : FactTables) (groups : List (List ℕ)) (scope : Scope) (e : ℕ) → e ≡ length groups → clauses_of_group g facts groups scope e ≡ []
root_rows g facts groups scope e is = pick (nat_eq e (length groups)) (eq-eqb e (length groups) is)
  where
    pick : (b : Bool) → b ≡ true → cond b [] (group_clauses g facts (group_at groups e) scope) ≡ []
    pick true h = refl
    pick false h = cc

pub tables_are : (g : FlowGraph) (facts : FactTables) (groups : List (List ℕ)) (scope : Scope) → ((ms : List ℕ) → NamesAreApart g facts ms) → (e : ℕ) → e ≤ length groups
    → IsTableOf (system_of g facts groups) (in_scope scope) e (clauses_of_group g facts groups scope e)
tables_are g facts groups scope apart e le = elim (cases_eq e (length groups)) [
  | inl same ↦
      subst (λ (rows : List NamedClause). IsTableOf (system_of g facts groups) (in_scope scope) e rows) (sym (root_rows g facts groups scope e same))
      (subst (λ (n : ℕ). IsTableOf (system_of g facts groups) (in_scope scope) n []) (sym same) (root_table g facts groups scope))
  | inr ne ↦ table_is g facts groups scope e (omega arith) (apart (group_at groups e))
]
