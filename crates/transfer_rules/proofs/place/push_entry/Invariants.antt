use Rattle.std.proofs.Common.{◌≡◌, ◌++◌}
use Rattle.field_rules.specs.Lists.{gather}
use Rattle.transfer_rules.specs.Rules.{entry_slot}
use Rattle.transfer_rules.proofs.place.push_entry.Given as goal

abbrev pub invariant-loop-x : goal.invariant-loop-x
invariant-loop-x g l = l.out.items ≡ l.initial.out.items ++ gather l.x (entry_slot (g.S.View.sight l.scene) (g.S.Scene.setting l.scene) l.place)
