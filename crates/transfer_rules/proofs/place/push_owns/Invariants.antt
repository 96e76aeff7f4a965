use Rattle.std.proofs.Common.{◌≡◌, ◌++◌, take}
use Rattle.std.specs.List.{flat_map}
use Rattle.transfer_rules.specs.Rules.{exit_own}
use Rattle.transfer_rules.proofs.place.push_owns.Given as goal

abbrev pub invariant-loop-x : goal.invariant-loop-x
invariant-loop-x g l = l.out.items ≡ l.initial.out.items ++ flat_map (exit_own (g.S.View.sight l.scene) (g.S.Scene.setting l.scene) l.place) (take l.x-index l.pointers)
