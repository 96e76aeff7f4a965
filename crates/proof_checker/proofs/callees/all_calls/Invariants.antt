use Rattle.std.proofs.Common.{◌≡◌, map, take}
use Rattle.proof_checker.specs.Programs.{calls_out}
use Rattle.proof_checker.proofs.callees.all_calls.Given as goal

abbrev pub invariant-loop-group : goal.invariant-loop-group
invariant-loop-group l = l.all.items ≡ map (calls_out l.program.graph l.program.groups) (take l.group l.program.groups)
