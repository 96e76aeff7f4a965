use Rattle.std.proofs.Common.{◌≡◌, map, take}
use Rattle.field_rules.proofs.edge_lines.phis_to.Given as goal

abbrev pub invariant-loop-field : goal.invariant-loop-field
invariant-loop-field g l = l.out.items ≡ map (g.V.View.sight l.view).phi (take l.field-index l.fields)
