use Rattle.std.proofs.Common.{◌≡◌, drop}
use Rattle.field_rules.specs.Lines.{is_arg}
use Rattle.field_rules.proofs.edge_lines.is_arg.Given as goal

abbrev pub invariant-loop-arg : goal.invariant-loop-arg
invariant-loop-arg l = is_arg l.args l.y ≡ is_arg (drop l.arg-index l.args) l.y
