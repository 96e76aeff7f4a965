use Rattle.std.proofs.Common.{◌≡◌, drop, map}
use Rattle.c_tree.specs.View.{proc_view}
use Rattle.c_types.specs.Declarations.{with_procs}
use Rattle.c_types.proofs.mentions.add_procs.Given as goal

abbrev pub invariant-loop-p : goal.invariant-loop-p
invariant-loop-p l = with_procs l.tags (map proc_view (drop l.p-index l.ps)) ≡ with_procs l.fn.tags (map proc_view l.ps)
