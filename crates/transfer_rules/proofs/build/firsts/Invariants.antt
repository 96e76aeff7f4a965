use Rattle.std.proofs.Common.{◌≡◌, take}
use Rattle.transfer_rules.specs.Programs.{firsts}
use Rattle.transfer_rules.proofs.build.firsts.Given as goal

abbrev pub invariant-loop-group : goal.invariant-loop-group
invariant-loop-group l = l.out.items ≡ firsts (take l.group-index l.groups)
