use Rattle.std.proofs.Common.{◌≤◌, length}
use Rattle.flow_graph.specs.FlowGraph.{flow_of}
use Rattle.path_facts.specs.Rows.{HasBits}
use Rattle.path_facts.specs.Progress.{IsEmptyBetween}
use Rattle.path_facts.proofs.start.start_row.Given as goal

abbrev pub invariant-slots : goal.invariant-slots
invariant-slots l = record {
  bits : HasBits l.tracks l.row;
  row : IsEmptyBetween l.tracks (length (flow_of l.graph l.proc).params) l.slot l.row;
  low : length (flow_of l.graph l.proc).params ≤ l.slot;
  high : l.slot ≤ length (flow_of l.graph l.proc).slots;
}
