use Rattle.std.proofs.Common.{◌≡◌, ◌+◌, ◌++◌}
use Rattle.field_rules.specs.Lists.{gather}
use Rattle.field_rules.specs.Lines.{base_line}
use Rattle.field_rules.proofs.place_lines.push_fields.Given as goal

abbrev pub invariant-loop-j : goal.invariant-loop-j
invariant-loop-j g l = l.out.items ≡ l.initial.out.items ++ gather l.j (λ j. base_line (g.V.View.sight l.view) l.place l.y l.others (l.range.first + j))
