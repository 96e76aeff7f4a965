use Rattle.std.proofs.Common.{◌≡◌, take}
use Rattle.std.specs.Prelude.{sum_by}
use Rattle.program_shapes.specs.Tables.{parts_there}
use Rattle.program_shapes.proofs.groups.parts_called.Given as goal

abbrev pub invariant-loop-call : goal.invariant-loop-call
invariant-loop-call l = l.parts ≡ sum_by parts_there (take l.call-index l.calls)
