-- The tables of a program's groups are what a solve asks for.
use Rattle.std.proofs.Common.{◌≡◌, ℕ, ◌≤◌, Bool, true, false, cond, List, [], length, refl, sym, subst}
use Rattle.std.specs.Prelude.{nat_eq}
use Rattle.std.proofs.lemmas.Bool.{ne_eqb}
use Rattle.flow_graph.specs.FlowGraph.{FlowGraph}
use Rattle.path_facts.specs.Tables.{FactTables}
use Rattle.transfer_rules.specs.declared.scope.Scope.{Scope}
use Rattle.transfer_rules.specs.Names.{NamedClause, group_clauses, in_scope}
use Rattle.transfer_rules.specs.Programs.{Parts, group_at}
use Rattle.verdict_meaning.specs.Systems.{root, count}
use Rattle.verdict_meaning.specs.Programs.{NamesAreApart, system_in}
use Rattle.unit_answers.specs.Tables.{IsTableOf, clauses_of_group, table_in}
use Rattle.unit_answers.proofs.Rows.{tables_are}
use Rattle.call_search.specs.Ledgers.{IsLedger}
use Rattle.call_search.specs.Indexes.{Ledger}
use Rattle.group_solver.specs.Rows.{IsSolvedFor}

-- the clauses of a group that is not the root
pub own_rows : (g : FlowGraph) (facts : FactTables) (groups : List (List ℕ)) (scope : Scope) (e : ℕ) → (e ≡ length groups → ⊥)
    → group_clauses g facts (group_at groups e) scope ≡ clauses_of_group g facts groups scope e
own_rows g facts groups scope e ne = sym (pick (nat_eq e (length groups)) (ne_eqb e (length groups) ne))
  where
    pick : (b : Bool) → b ≡ false → cond b [] (group_clauses g facts (group_at groups e) scope) ≡ group_clauses g facts (group_at groups e) scope
    pick true is = cc
    pick false is = refl

pub solved_for : (p : Parts) (scope : Scope) (g vars : ℕ) (rows : List NamedClause) (l : Ledger) → ((ms : List ℕ) → NamesAreApart p.graph p.facts ms) → g ≤ root (system_in p) → vars ≡ count (system_in p) g
    → rows ≡ table_in p scope g → IsLedger (system_in p) (in_scope scope) l → IsSolvedFor (system_in p) (in_scope scope) g vars rows l
solved_for p scope g vars rows l apart le unknowns is ledger = record {
  group = le;
  unknowns = unknowns;
  table = subst (λ (rs : List NamedClause). IsTableOf (system_in p) (in_scope scope) g rs) (sym is) (tables_are p.graph p.facts p.groups scope apart g le);
  ledger = ledger;
}
