use Rattle.std.proofs.Common.{◌≡◌, drop, map}
use Rattle.c_tree.specs.View.{proc_view}
use Rattle.c_types.specs.Names.{with_names}
use Rattle.c_types.proofs.declarations.add_names.Given as goal

abbrev pub invariant-loop-p : goal.invariant-loop-p
invariant-loop-p l = with_names l.names (map (λ x. x.name) (map proc_view (drop l.p-index l.procs))) ≡ with_names l.fn.names (map (λ x. x.name) (map proc_view l.procs))
