use Rattle.std.proofs.Common.{◌≡◌, drop, map}
use Rattle.c_tree.specs.View.{proc_view}
use Rattle.c_types.specs.Declarations.{with_file}
use Rattle.c_types.proofs.mentions.add_file.Given as goal

abbrev pub invariant-loop-d : goal.invariant-loop-d
invariant-loop-d l = with_file l.tags (drop l.d-index l.structs) (map proc_view l.rest) ≡ with_file l.fn.tags l.structs (map proc_view l.procs)
