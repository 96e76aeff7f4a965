use Rattle.std.proofs.Common.{take, ◌++◌}
use Rattle.call_search.specs.Entries.{in_group}
use Rattle.call_search.specs.Made.{all_of, AreMadeOf}
use Rattle.call_search.proofs.certify.push_group.Given as goal

abbrev pub invariant-loop-entry : goal.invariant-loop-entry
invariant-loop-entry g l = AreMadeOf (g.G.Shapes.system l.groups) l.table.items (all_of (take l.group l.table.items) ++ take l.entry-index (in_group l.table.items l.group)) l.out.items
