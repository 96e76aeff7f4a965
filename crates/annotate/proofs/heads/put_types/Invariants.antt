use Rattle.std.proofs.Common.{◌≡◌, ◌++◌, false}
use Rattle.flow_graph.specs.FlowGraph.{type_in}
use Rattle.owner_vars.specs.Unknowns.{gather}
use Rattle.annotate.specs.Annotation.{comma, kind_text}
use Rattle.annotate.proofs.heads.put_types.Given as goal

abbrev pub invariant-loop-place : goal.invariant-loop-place
invariant-loop-place l = l.out.items ≡ l.fn.out.items ++ gather l.place (λ j. comma j ++ kind_text (type_in l.kinds j) false)
