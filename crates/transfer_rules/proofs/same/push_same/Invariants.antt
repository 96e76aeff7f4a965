use Rattle.std.proofs.Common.{◌≡◌, ◌++◌, take}
use Rattle.std.specs.List.{flat_map}
use Rattle.transfer_rules.specs.Rules.{same_slot}
use Rattle.transfer_rules.proofs.same.push_same.Given as goal

abbrev pub invariant-loop-x : goal.invariant-loop-x
invariant-loop-x g l = l.out.items ≡ l.initial.out.items ++ flat_map (same_slot (g.S.View.sight l.scene) (g.S.Scene.setting l.scene) l.way.from l.way.number l.way.to l.action) (take l.x-index l.pointers)
