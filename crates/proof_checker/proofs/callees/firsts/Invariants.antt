use Rattle.std.proofs.Common.{◌≡◌, take}
use Rattle.verdict_meaning.specs.Systems.{firsts}
use Rattle.proof_checker.proofs.callees.firsts.Given as goal

abbrev pub invariant-loop-group : goal.invariant-loop-group
invariant-loop-group l = l.items.items ≡ firsts 0 (take l.group l.program.groups)
