use Rattle.std.proofs.Common.{◌≡◌, ◌++◌}
use Rattle.owner_vars.specs.Unknowns.{gather}
use Rattle.annotate.specs.Annotation.{proc_lines}
use Rattle.annotate.proofs.procs.put_procs.Given as goal

abbrev pub invariant-loop-proc : goal.invariant-loop-proc
invariant-loop-proc l = l.out.items ≡ l.fn.out.items ++ gather l.proc (proc_lines l.source.typed.now l.source.graph.now l.source.facts.now l.fn.groups l.instances l.order)
