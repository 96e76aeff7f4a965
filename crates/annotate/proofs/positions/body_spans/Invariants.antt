use Rattle.std.proofs.Common.{◌≡◌}
use Rattle.owner_vars.specs.Tables.{listed}
use Rattle.annotate.specs.Positions.{spans_of}
use Rattle.annotate.proofs.positions.body_spans.Given as goal

abbrev pub invariant-loop-proc : goal.invariant-loop-proc
invariant-loop-proc l = l.bodies_spans.items ≡ listed l.proc (spans_of l.typed)
