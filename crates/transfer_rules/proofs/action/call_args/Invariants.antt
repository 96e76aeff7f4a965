use Rattle.std.proofs.Common.{◌≡◌, take}
use Rattle.transfer_rules.specs.Rules.{call_args}
use Rattle.transfer_rules.proofs.action.call_args.Given as goal

abbrev pub invariant-loop-arg : goal.invariant-loop-arg
invariant-loop-arg l = l.items.items ≡ call_args (take l.arg-index l.args)
