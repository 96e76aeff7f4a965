use Rattle.verdict_meaning.specs.Programs.{system_in}
use Rattle.program_shapes.proofs.Placing.{IsPlacing}
use Rattle.program_shapes.proofs.procs.place_group.Given as goal

abbrev pub invariant-loop-proc : goal.invariant-loop-proc
invariant-loop-proc l = IsPlacing (system_in l.program) l.group l.proc-index l.fn.procs.items l.procs.items l.before
