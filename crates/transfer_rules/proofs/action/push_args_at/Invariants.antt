use Rattle.std.proofs.Common.{◌≡◌, ◌++◌, take}
use Rattle.std.specs.List.{flat_map}
use Rattle.transfer_rules.specs.Rules.{call_arg_at}
use Rattle.transfer_rules.proofs.action.push_args_at.Given as goal

abbrev pub invariant-loop-arg : goal.invariant-loop-arg
invariant-loop-arg g l = l.out.items ≡ l.initial.out.items ++ flat_map (call_arg_at (g.S.View.sight l.scene) (g.S.Scene.setting l.scene) l.way.from l.way.number l.u) (take l.arg-index l.args)
