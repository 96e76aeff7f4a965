use Rattle.std.proofs.Common.{◌≡◌, drop, map}
use Rattle.c_tree.specs.View.{proc_view}
use Rattle.c_types.specs.Declarations.{with_bodies}
use Rattle.c_types.proofs.declarations.add_bodies.Given as goal

abbrev pub invariant-loop-p : goal.invariant-loop-p
invariant-loop-p l = with_bodies l.names (map proc_view (drop l.p-index l.procs)) ≡ with_bodies l.fn.names (map proc_view l.procs)
