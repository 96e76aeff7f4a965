use Rattle.std.proofs.Common.{◌≡◌, ◌+◌, ◌++◌}
use Rattle.field_rules.specs.Lists.{gather}
use Rattle.transfer_rules.specs.Rules.{same_field}
use Rattle.transfer_rules.proofs.same.push_fields.Given as goal

abbrev pub invariant-loop-j : goal.invariant-loop-j
invariant-loop-j g l = l.out.items ≡ l.initial.out.items ++ gather l.j (λ j. same_field (g.S.View.sight l.scene) (g.S.Scene.setting l.scene) l.way.from l.way.number l.way.to l.action l.x (l.range.first + j))
