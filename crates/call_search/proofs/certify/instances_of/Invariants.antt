use Rattle.std.proofs.Common.{take}
use Rattle.call_search.specs.Made.{all_of, AreMadeOf}
use Rattle.call_search.proofs.certify.instances_of.Given as goal

abbrev pub invariant-loop-group : goal.invariant-loop-group
invariant-loop-group g l = AreMadeOf (g.G.Shapes.system l.groups) l.table.items (all_of (take l.group l.table.items)) l.out.items
