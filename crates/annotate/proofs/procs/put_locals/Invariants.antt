use Rattle.std.proofs.Common.{◌≡◌, ◌++◌, take}
use Rattle.annotate.specs.Annotation.{local_lines}
use Rattle.annotate.proofs.procs.put_locals.Given as goal

abbrev pub invariant-loop-local : goal.invariant-loop-local
invariant-loop-local l = l.out.items ≡ l.fn.out.items ++ local_lines l.source.typed.now l.source.graph.now l.source.facts.now l.proc l.rows (take l.local-index l.locals)
