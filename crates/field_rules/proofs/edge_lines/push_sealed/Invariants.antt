use Rattle.std.proofs.Common.{◌≡◌, ◌+◌, ◌++◌}
use Rattle.field_rules.specs.Lists.{gather}
use Rattle.field_rules.specs.Lines.{sealed_line, phis_to, sigmas_to}
use Rattle.field_rules.proofs.edge_lines.push_sealed.Given as goal

abbrev pub invariant-loop-j : goal.invariant-loop-j
invariant-loop-j g l = l.out.items ≡ l.initial.out.items ++ gather l.j (λ j. sealed_line (g.V.View.sight l.view) l.from l.y (phis_to (g.V.View.sight l.view) l.structure) (sigmas_to (g.V.View.sight l.view) l.args l.from l.structure) (l.range.first + j))
