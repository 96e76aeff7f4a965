use Rattle.std.proofs.Common.{◌≡◌, ◌++◌}
use Rattle.std.specs.List.{flat_map}
use Rattle.transfer_rules.specs.Rules.{of_line}
use Rattle.transfer_rules.proofs.action.push_lines.Given as goal

abbrev pub invariant-loop-line : goal.invariant-loop-line
invariant-loop-line g l = l.out.items ≡ l.initial.out.items ++ flat_map (of_line (g.S.View.sight l.scene) (g.S.Scene.setting l.scene) l.way.from l.way.number) l.yielded
