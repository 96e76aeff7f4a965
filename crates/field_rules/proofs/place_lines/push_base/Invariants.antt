use Rattle.std.proofs.Common.{◌≡◌, ◌++◌, take}
use Rattle.field_rules.specs.Lines.{one_base_line}
use Rattle.std.specs.List.{flat_map}
use Rattle.field_rules.proofs.place_lines.push_base.Given as goal

abbrev pub invariant-loop-z : goal.invariant-loop-z
invariant-loop-z g l = l.out.items ≡ l.initial.out.items ++ flat_map (one_base_line (g.V.View.sight l.view) l.place l.y l.f) (take l.z-index l.others)
