use Rattle.std.proofs.Common.{◌≡◌, ◌++◌, suc}
use Rattle.owner_vars.specs.Unknowns.{gather}
use Rattle.annotate.specs.Annotation.{field_line}
use Rattle.annotate.proofs.heads.put_fields.Given as goal

abbrev pub invariant-loop-before : goal.invariant-loop-before
invariant-loop-before l = l.out.items ≡ l.fn.out.items ++ gather l.before (λ j. field_line l.source.typed.now l.source.graph.now l.phi (suc j))
