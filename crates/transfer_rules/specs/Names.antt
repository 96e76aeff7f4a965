-- Names of constraints: their order, scopes of names, and the clauses of a name.
use Rattle.std.specs.Prelude.{◌≡◌, ℕ, Bool, true, false, cond, not, ◌&&◌, ◌||◌, nat_eq, nat_lt, List, [], ◌∷◌, map, Option, Some, None, option_map}
use Rattle.std.specs.List.{All, flat_map, list_any}
use Rattle.zo_core.specs.Literals.{Literal}
use Rattle.zo_core.specs.Order.{kept_all}
use Rattle.zo_core.specs.declared.forms.Form.{Form}
use Rattle.flow_graph.specs.FlowGraph.{FlowGraph}
use Rattle.path_facts.specs.Tables.{FactTables}
use Rattle.conflict_proof.specs.declared.names.ConstraintName.{ConstraintName}
use Rattle.field_rules.specs.Meaning.{rule_forms, FormsHold, forms_clauses}
use Rattle.transfer_rules.specs.declared.constraint.Condition.{Condition}
use Rattle.transfer_rules.specs.declared.constraint.Condition.TheVariants as condition
use Rattle.transfer_rules.specs.declared.constraint.Constraint.{Constraint}
use Rattle.transfer_rules.specs.declared.scope.Scope.{Scope}
use Rattle.transfer_rules.specs.Rules.{constraints}

-- The order of names

abbrev pub name_key : ConstraintName → List ℕ
name_key n = n.proc ∷ n.place ∷ n.edge ∷ n.rule ∷ n.slot ∷ n.field ∷ n.other ∷ []

abbrev pub is_less : List ℕ → List ℕ → Bool
is_less [] [] = false
is_less [] (b ∷ bs) = true
is_less (a ∷ ks) [] = false
is_less (a ∷ ks) (b ∷ bs) = nat_lt a b || (nat_eq a b && is_less ks bs)

abbrev pub comes_before : ConstraintName → ConstraintName → Bool
comes_before m n = is_less (name_key m) (name_key n)

abbrev pub is_equal : List ℕ → List ℕ → Bool
is_equal [] [] = true
is_equal (a ∷ ks) (b ∷ bs) = nat_eq a b && is_equal ks bs
is_equal _ _ = false

abbrev pub is_name : ConstraintName → ConstraintName → Bool
is_name m n = is_equal (name_key m) (name_key n)

abbrev pub has_name : List ConstraintName → ConstraintName → Bool
has_name ms n = list_any (is_name n) ms

-- Scopes

abbrev pub in_scope : Scope → ConstraintName → Bool
in_scope s n = has_name s.keep n || (comes_before s.after n && not (has_name s.without n))

-- 21, Same, is always in force
abbrev pub is_in_force : Scope → ConstraintName → Bool
is_in_force s n = nat_eq n.rule 21 || in_scope s n

-- What a constraint says

abbrev pub condition_forms : Condition → List Form
condition_forms (condition.Form f) = f ∷ []
condition_forms (condition.Field r) = rule_forms r

abbrev pub ConditionHolds : Condition → (ℕ → Bool) → Type 0
ConditionHolds c t = FormsHold (condition_forms c) t

abbrev pub condition_clauses : Condition → List (List Literal)
condition_clauses c = kept_all (forms_clauses (condition_forms c))

-- the clauses of all these constraints
abbrev pub all_clauses : List Constraint → List (List Literal)
all_clauses cs = flat_map (λ (c : Constraint). condition_clauses c.condition) cs

-- Names and clauses of a group

abbrev pub name_of : Constraint → ConstraintName
name_of c = c.name

abbrev pub names : FlowGraph → FactTables → List ℕ → List ConstraintName
names g ts members = map name_of (constraints g ts members)

-- the condition of a name among constraints
abbrev pub condition_in : List Constraint → ConstraintName → Option Condition
condition_in [] n = None
condition_in (c ∷ cs) n = cond (is_name c.name n) (Some c.condition) (condition_in cs n)

abbrev pub condition_of_name : FlowGraph → FactTables → List ℕ → ConstraintName → Option Condition
condition_of_name g ts members n = condition_in (constraints g ts members) n

abbrev pub clauses_of_name : FlowGraph → FactTables → List ℕ → ConstraintName → Option (List (List Literal))
clauses_of_name g ts members n = option_map condition_clauses (condition_of_name g ts members n)

-- a clause with the name of its constraint
pub record NamedClause : Type 0 where
  pub name : ConstraintName
  pub lits : List Literal

abbrev pub named_clause : ConstraintName → List Literal → NamedClause
named_clause n ls = record { name = n; lits = ls }

abbrev pub named_clauses : Constraint → List NamedClause
named_clauses c = map (named_clause c.name) (condition_clauses c.condition)

-- those of a constraint that is in force
abbrev pub clauses_if : Scope → Constraint → List NamedClause
clauses_if s c = cond (is_in_force s c.name) (named_clauses c) []

-- all clauses of the constraints that are in force, in the order of names
abbrev pub clauses_in : Scope → List Constraint → List NamedClause
clauses_in s cs = flat_map (clauses_if s) cs

abbrev pub group_clauses : FlowGraph → FactTables → List ℕ → Scope → List NamedClause
group_clauses g ts members s = clauses_in s (constraints g ts members)

-- What holds in a scope

abbrev pub lits_of : List NamedClause → List (List Literal)
lits_of cs = map (λ (c : NamedClause). c.lits) cs

-- an assignment meets each constraint of a group whose name is in force
abbrev pub NamesHold : FlowGraph → FactTables → List ℕ → Scope → (ℕ → Bool) → Type 0
NamesHold g ts members s t = (n : ConstraintName) (c : Condition) → is_in_force s n ≡ true → condition_of_name g ts members n ≡ Some c → ConditionHolds c t

-- all names of a group are in force
abbrev pub AllInForce : FlowGraph → FactTables → List ℕ → Scope → Type 0
AllInForce g ts members s = All (λ n. is_in_force s n ≡ true) (names g ts members)
