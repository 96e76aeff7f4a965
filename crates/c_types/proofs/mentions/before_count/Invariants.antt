use Rattle.std.proofs.Common.{◌≡◌, ◌+◌, drop, map}
use Rattle.c_tree.specs.View.{proc_view}
use Rattle.c_types.specs.Declarations.{before_count}
use Rattle.c_types.proofs.mentions.before_count.Given as goal

abbrev pub invariant-loop-i : goal.invariant-loop-i
invariant-loop-i l = l.i + before_count l.d (map proc_view (drop l.i l.ps)) ≡ before_count l.d (map proc_view l.ps)
