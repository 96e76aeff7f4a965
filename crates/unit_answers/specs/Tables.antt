-- The clauses of a group, by their numbers.
use Rattle.std.specs.Prelude.{◌≡◌, ℕ, Bool, cond, List, [], length, nat_eq, Some, slice_get}
use Rattle.std.specs.List.{Contains}
use Rattle.zo_core.specs.Literals.{Literal}
use Rattle.conflict_proof.specs.declared.names.ConstraintName.{ConstraintName}
use Rattle.flow_graph.specs.FlowGraph.{FlowGraph}
use Rattle.path_facts.specs.Tables.{FactTables}
use Rattle.transfer_rules.specs.declared.scope.Scope.{Scope}
use Rattle.transfer_rules.specs.Names.{NamedClause, named_clause, group_clauses}
use Rattle.transfer_rules.specs.Programs.{Parts, group_at}
use Rattle.verdict_meaning.specs.Systems.{System}
use Rattle.verdict_meaning.specs.Derivations.{IsAxiomLine}

-- the clauses of a group that are in force in a scope, in order, with their names; the root has none
abbrev pub clauses_of_group : FlowGraph → FactTables → List (List ℕ) → Scope → ℕ → List NamedClause
clauses_of_group g facts groups scope e = cond (nat_eq e (length groups)) [] (group_clauses g facts (group_at groups e) scope)

abbrev pub table_in : Parts → Scope → ℕ → List NamedClause
table_in p scope e = clauses_of_group p.graph p.facts p.groups scope e

-- the clauses of a table are those of the constraints of the group that count
pub record IsTableOf (s : System) (U : ConstraintName → Bool) (g : ℕ) (rows : List NamedClause) : Type 0 where
  pub each : (k : ℕ) (row : NamedClause) → slice_get rows k ≡ Some row → IsAxiomLine s U g row.name row.lits
  pub whole : (name : ConstraintName) (c : List Literal) → IsAxiomLine s U g name c → Contains rows (named_clause name c)
