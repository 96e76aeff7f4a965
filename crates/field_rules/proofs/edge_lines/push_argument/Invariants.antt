use Rattle.std.proofs.Common.{◌≡◌, ◌+◌, ◌++◌}
use Rattle.field_rules.specs.Lists.{gather}
use Rattle.field_rules.specs.Lines.{argument_line}
use Rattle.field_rules.proofs.edge_lines.push_argument.Given as goal

abbrev pub invariant-loop-j : goal.invariant-loop-j
invariant-loop-j g l = l.out.items ≡ l.initial.out.items ++ gather l.j (λ j. argument_line (g.V.View.sight l.view) l.from l.y (l.range.first + j))
