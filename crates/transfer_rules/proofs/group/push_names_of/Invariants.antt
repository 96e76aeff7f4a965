use Rattle.std.proofs.Common.{◌≡◌, ◌++◌, map}
use Rattle.field_rules.specs.Lists.{gather}
use Rattle.transfer_rules.specs.Names.{name_of}
use Rattle.transfer_rules.specs.Rules.{constraints_at}
use Rattle.transfer_rules.proofs.group.push_names_of.Given as goal

abbrev pub invariant-loop-place : goal.invariant-loop-place
invariant-loop-place g l = l.out.items ≡ l.initial.out.items ++ map name_of (gather l.place (constraints_at (g.S.View.sight l.scene) (g.S.Scene.setting l.scene)))
