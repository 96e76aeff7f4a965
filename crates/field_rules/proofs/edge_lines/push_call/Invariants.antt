use Rattle.std.proofs.Common.{◌≡◌, ◌++◌, take}
use Rattle.field_rules.specs.Lines.{call_lines}
use Rattle.std.specs.List.{flat_map}
use Rattle.field_rules.proofs.edge_lines.push_call.Given as goal

abbrev pub invariant-loop-y : goal.invariant-loop-y
invariant-loop-y g l = l.out.items ≡ l.initial.out.items ++ flat_map (call_lines (g.V.View.sight l.view) l.args l.from) (take l.y-index l.pointers)
