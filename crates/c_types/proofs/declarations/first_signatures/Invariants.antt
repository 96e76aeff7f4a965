use Rattle.std.proofs.Common.{◌≡◌, [], ◌++◌, drop, map}
use Rattle.c_tree.specs.View.{proc_view}
use Rattle.c_types.specs.Declarations.{signatures_from}
use Rattle.c_types.proofs.declarations.first_signatures.Given as goal

abbrev pub invariant-loop-p : goal.invariant-loop-p
invariant-loop-p l = l.items.items ++ signatures_from l.tags l.seen (map proc_view (drop l.p-index l.procs)) ≡ signatures_from l.tags [] (map proc_view l.procs)
