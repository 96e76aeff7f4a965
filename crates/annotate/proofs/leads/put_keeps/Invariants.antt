use Rattle.std.proofs.Common.{◌≡◌, ◌++◌, [], cond, suc}
use Rattle.owner_vars.specs.Unknowns.{gather}
use Rattle.annotate.specs.Annotation.{keeps_line}
use Rattle.annotate.specs.Keeps.{leads_back}
use Rattle.annotate.proofs.leads.put_keeps.Given as goal

abbrev pub invariant-loop-before : goal.invariant-loop-before
invariant-loop-before l =
    l.out.items ≡ l.fn.out.items
    ++ gather l.before (λ j. cond (leads_back l.source.graph.now l.phi l.marks (suc j)) (keeps_line l.source.typed.now l.source.graph.now (suc j)) [])
