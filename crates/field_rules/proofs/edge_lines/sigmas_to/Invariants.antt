use Rattle.std.proofs.Common.{◌≡◌, take}
use Rattle.field_rules.specs.Lines.{sigma_to}
use Rattle.std.specs.List.{flat_map}
use Rattle.field_rules.proofs.edge_lines.sigmas_to.Given as goal

abbrev pub invariant-loop-arg : goal.invariant-loop-arg
invariant-loop-arg g l = l.out.items ≡ flat_map (sigma_to (g.V.View.sight l.view) l.from l.structure) (take l.arg-index l.args)
