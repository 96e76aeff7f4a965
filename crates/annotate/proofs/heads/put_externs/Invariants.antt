use Rattle.std.proofs.Common.{◌≡◌, ◌++◌, ◌+◌}
use Rattle.owner_vars.specs.Unknowns.{gather}
use Rattle.annotate.specs.Annotation.{extern_line}
use Rattle.annotate.proofs.heads.put_externs.Given as goal

abbrev pub invariant-loop-after : goal.invariant-loop-after
invariant-loop-after l = l.out.items ≡ l.fn.out.items ++ gather l.after (λ j. extern_line l.source.typed.now l.source.graph.now (l.source.graph.now.bodies + j))
