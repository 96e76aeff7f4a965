use Rattle.std.proofs.Common.{◌≡◌, ◌++◌, drop, length}
use Rattle.std.specs.List.{All}
use Rattle.flow_graph.specs.Fits.{ConstantsFit}
use Rattle.flow_graph.specs.GraphOf.{flows_from, all_strings}
use Rattle.flow_graph.proofs.flows.flows.Given as goal

abbrev pub invariant-loop-info : goal.invariant-loop-info
invariant-loop-info l = record {
  fit : All ConstantsFit l.flows.items;
  count : l.k ≡ l.info-index;
  flows : l.flows.items ++ flows_from l.tree l.types l.main l.k (length l.seen.texts) (drop l.info-index l.procs) ≡ flows_from l.tree l.types l.main 0 0 l.procs;
  texts : l.seen.texts ++ all_strings l.tree (drop l.info-index l.procs) ≡ all_strings l.tree l.procs;
}
