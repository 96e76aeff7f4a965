-- An assignment makes all clauses of a call group true exactly where the rules hold in each of its procedures.
use Rattle.std.proofs.Common.{◌≡◌, ℕ, Bool, ◌&&◌, List, [], ◌∷◌, ◌++◌, refl, sym, ◌∙◌, ◌↔◌}
use Rattle.std.specs.Prelude.{IsTrue}
use Rattle.zo_core.specs.Truth.{all_true}
use Rattle.zo_core.specs.Values.{all_true-append}
use Rattle.field_rules.specs.Laws.{forms_law}
use Rattle.flow_graph.specs.FlowGraph.{FlowGraph}
use Rattle.path_facts.specs.Tables.{FactTables}
use Rattle.transfer_rules.specs.declared.constraint.Constraint.{Constraint}
use Rattle.transfer_rules.specs.Body.{sight, setting}
use Rattle.transfer_rules.specs.Rules.{body_of, body_constraints, constraints}
use Rattle.transfer_rules.specs.Names.{condition_forms, condition_clauses, all_clauses}
use Rattle.transfer_rules.specs.Holds.{Each, ProcHolds, GroupHolds}
use Rattle.transfer_rules.proofs.EachLemmas.{both_true, each-flat, each-same}
use Rattle.transfer_rules.proofs.RuleLaws.{Met, proc_law}

pub clauses_law : (t : ℕ → Bool) (cs : List Constraint) → (IsTrue (all_true t (all_clauses cs)) ↔ Each (Met t) cs)
clauses_law t [] = ((λ _. tt), (λ _. refl))
clauses_law t (c ∷ cs) =
    let e : all_true t (condition_clauses c.condition ++ all_clauses cs) ≡ (all_true t (condition_clauses c.condition) && all_true t (all_clauses cs)) = all_true-append t (condition_clauses c.condition) (all_clauses cs) in
    let a = both_true (all_true t (condition_clauses c.condition)) (all_true t (all_clauses cs)) in
    let one = forms_law (condition_forms c.condition) t in
    let more = clauses_law t cs in
    ((λ h. let b = a.0 (sym e ∙ h) in (one.0 b.0, more.0 b.1)), (λ h. e ∙ a.1 (one.1 h.0, more.1 h.1)))

pub group_law : (g : FlowGraph) (ts : FactTables) (members : List ℕ) (t : ℕ → Bool) → (IsTrue (all_true t (all_clauses (constraints g ts members))) ↔ GroupHolds g ts members t)
group_law g ts members t =
    let a = clauses_law t (constraints g ts members) in
    let b = each-flat (Met t) (body_constraints g ts members) members in
    let c = each-same (λ k. Each (Met t) (body_constraints g ts members k)) (λ k. ProcHolds (sight (body_of g ts members k)) (setting (body_of g ts members k)) t) members (λ k. proc_law (sight (body_of g ts members k)) (setting (body_of g ts members k)) t) in
    ((λ h. c.0 (b.0 (a.0 h))), (λ h. a.1 (b.1 (c.1 h))))
