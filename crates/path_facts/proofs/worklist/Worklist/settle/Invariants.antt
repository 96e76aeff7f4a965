use Rattle.path_facts.specs.Progress.{total, IsWorklist, IsSettled}
use Rattle.path_facts.proofs.worklist.Worklist.settle.Given as goal

abbrev pub invariant-sweeps : goal.invariant-sweeps
invariant-sweeps l = record {
  work : IsWorklist l.graph l.proc l.tracks l.self.rows.items l.self.pending.items l.self.after;
  settled : IsSettled l.graph l.proc l.tracks l.self.rows.items l.self.pending.items;
}

abbrev pub decreases-sweeps : goal.decreases-sweeps
decreases-sweeps l = total l.self.rows.items
