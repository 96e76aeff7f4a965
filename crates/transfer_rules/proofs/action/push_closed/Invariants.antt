use Rattle.std.proofs.Common.{◌≡◌, ◌+◌, ◌++◌}
use Rattle.field_rules.specs.Lists.{gather}
use Rattle.transfer_rules.specs.Rules.{closed_at}
use Rattle.transfer_rules.proofs.action.push_closed.Given as goal

abbrev pub invariant-loop-j : goal.invariant-loop-j
invariant-loop-j g l = l.out.items ≡ l.initial.out.items ++ gather l.j (λ j. closed_at (g.S.View.sight l.scene) (g.S.Scene.setting l.scene) l.way.from l.way.number l.rule l.place l.slot (l.range.first + j))
