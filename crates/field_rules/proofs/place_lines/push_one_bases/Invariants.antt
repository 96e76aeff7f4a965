use Rattle.std.proofs.Common.{◌≡◌, ◌++◌, take}
use Rattle.field_rules.specs.Lines.{one_base_lines}
use Rattle.std.specs.List.{flat_map}
use Rattle.field_rules.proofs.place_lines.push_one_bases.Given as goal

abbrev pub invariant-loop-y : goal.invariant-loop-y
invariant-loop-y g l = l.out.items ≡ l.initial.out.items ++ flat_map (one_base_lines (g.V.View.sight l.view) l.place) (take l.y-index l.pointers)
