use Rattle.verdict_meaning.specs.Programs.{system_in}
use Rattle.program_shapes.proofs.Placing.{AreDone}
use Rattle.program_shapes.proofs.procs.proc_shapes.Given as goal

abbrev pub invariant-loop-group : goal.invariant-loop-group
invariant-loop-group l = AreDone (system_in l.program) l.group l.program.graph.bodies l.procs.items
