-- The clauses of a group's table, and what is known of the group.
use Rattle.std.specs.Prelude.{◌≡◌, ℕ, ◌≤◌, Bool, List, [], Option, Some, None}
use Rattle.conflict_proof.specs.declared.names.ConstraintName.{ConstraintName}
use Rattle.transfer_rules.specs.Names.{NamedClause}
use Rattle.verdict_meaning.specs.Systems.{System, root, count}
use Rattle.unit_answers.specs.Tables.{IsTableOf}
use Rattle.call_search.specs.Ledgers.{IsLedger}
use Rattle.call_search.specs.Indexes.{Ledger}

-- the root has no table
abbrev pub rows_in : Option (List NamedClause) → List NamedClause
rows_in None = []
rows_in (Some rows) = rows

-- the group of a system has so many unknowns and these clauses, and the ledger is one of the system
pub record IsSolvedFor (s : System) (U : ConstraintName → Bool) (g vars : ℕ) (rows : List NamedClause) (l : Ledger) : Type 0 where
  pub group : g ≤ root s
  pub unknowns : vars ≡ count s g
  pub table : IsTableOf s U g rows
  pub ledger : IsLedger s U l
