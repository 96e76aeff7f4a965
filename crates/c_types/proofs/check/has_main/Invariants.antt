use Rattle.std.proofs.Common.{◌≡◌, drop, map}
use Rattle.std.specs.List.{list_any}
use Rattle.c_tree.specs.View.{proc_view}
use Rattle.c_types.specs.Items.{is_main}
use Rattle.c_types.proofs.check.has_main.Given as goal

abbrev pub invariant-loop-p : goal.invariant-loop-p
invariant-loop-p l = list_any is_main (map proc_view (drop l.p-index l.procs)) ≡ list_any is_main (map proc_view l.procs)
