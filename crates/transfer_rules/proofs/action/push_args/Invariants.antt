use Rattle.std.proofs.Common.{◌≡◌, ◌++◌, take}
use Rattle.std.specs.List.{flat_map}
use Rattle.transfer_rules.specs.Rules.{call_arg_of}
use Rattle.transfer_rules.proofs.action.push_args.Given as goal

abbrev pub invariant-loop-u : goal.invariant-loop-u
invariant-loop-u g l = l.out.items ≡ l.initial.out.items ++ flat_map (call_arg_of (g.S.View.sight l.scene) (g.S.Scene.setting l.scene) l.way.from l.way.number l.args) (take l.u-index l.pointers)
