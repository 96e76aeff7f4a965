use Rattle.std.proofs.Common.{◌≡◌, drop}
use Rattle.c_tree.specs.View.{exprs_view}
use Rattle.flow_graph.specs.Strings.{see_of}
use Rattle.flow_graph.proofs.strings.+see.Given as goal

abbrev pub invariant-see_of-loop-e : goal.invariant-see_of-loop-e
invariant-see_of-loop-e l = see_of (exprs_view (drop l.e-index l.es)) l.seen ≡ see_of (exprs_view l.es) l.fn.seen
