-- Where the clauses of a name are found.
use Rattle.std.proofs.Common.{◌≡◌, ℕ, ◌<◌, ◌≤◌, Bool, true, false, cond, List, Option, None, refl, ap, ◌∙◌}
use Rattle.std.proofs.lemmas.Bool.{le-ltb, lt-ltb}
use Rattle.std.specs.Prelude.{option_map, nat_lt}
use Rattle.flow_graph.specs.FlowGraph.{FlowGraph}
use Rattle.flow_graph.specs.Fits.{is_in}
use Rattle.path_facts.specs.Tables.{FactTables}
use Rattle.conflict_proof.specs.declared.names.ConstraintName.{ConstraintName}
use Rattle.transfer_rules.specs.declared.constraint.Condition.{Condition}
use Rattle.transfer_rules.specs.Body.{sight, setting}
use Rattle.transfer_rules.specs.Names.{condition_clauses, condition_in, clauses_of_name}
use Rattle.transfer_rules.specs.Rules.{body_of, constraints_at}
use Rattle.transfer_rules.proofs.Placed.{name_law}

module _ (g : FlowGraph) (ts : FactTables) (ms : List ℕ) (n : ConstraintName) where
  abbrev here : Option Condition
  here = let b = body_of g ts ms n.proc in condition_in (constraints_at (sight b) (setting b) n.place) n

  abbrev within : Bool
  within = nat_lt n.place (sight (body_of g ts ms n.proc)).places

  both : (a b : Bool) → is_in ms n.proc ≡ a → within ≡ b → clauses_of_name g ts ms n ≡ option_map condition_clauses (cond a (cond b here None) None)
  both a b e f = ap (option_map condition_clauses) (name_law g ts ms n ∙ ap (λ c. cond c (cond within here None) None) e ∙ ap (λ c. cond a (cond c here None) None) f)

  pub no_member : is_in ms n.proc ≡ false → clauses_of_name g ts ms n ≡ None
  no_member e = both false within e refl

  pub no_place : is_in ms n.proc ≡ true → (sight (body_of g ts ms n.proc)).places ≤ n.place → clauses_of_name g ts ms n ≡ None
  no_place e le = both true false e (le-ltb n.place (sight (body_of g ts ms n.proc)).places le)

  pub at_place : is_in ms n.proc ≡ true → n.place < (sight (body_of g ts ms n.proc)).places
      → clauses_of_name g ts ms n ≡ option_map condition_clauses (condition_in (constraints_at (sight (body_of g ts ms n.proc)) (setting (body_of g ts ms n.proc)) n.place) n)
  at_place e lt = both true true e (lt-ltb n.place (sight (body_of g ts ms n.proc)).places lt)
