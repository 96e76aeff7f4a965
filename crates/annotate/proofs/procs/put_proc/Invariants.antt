use Rattle.std.proofs.Common.{◌≡◌, ◌++◌, take}
use Rattle.annotate.specs.Annotation.{lines_in}
use Rattle.annotate.specs.Locals.{locals_of}
use Rattle.annotate.proofs.procs.put_proc.Given as goal

abbrev pub invariant-loop-number : goal.invariant-loop-number
invariant-loop-number l = l.out.items ≡ l.fn.out.items ++ lines_in l.source.typed.now l.source.graph.now l.source.facts.now l.proc l.seat l.instances (take l.number-index l.numbers)
