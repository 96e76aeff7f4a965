use Rattle.std.proofs.Common.{◌≡◌, take}
use Rattle.field_rules.specs.Lines.{bound_lines}
use Rattle.std.specs.List.{flat_map}
use Rattle.field_rules.proofs.place_lines.place_rules.Given as goal

abbrev pub invariant-loop-y : goal.invariant-loop-y
invariant-loop-y g l = l.items.items ≡ flat_map (bound_lines (g.V.View.sight l.view) l.place) (take l.y-index l.pointers)
