use Rattle.path_facts.specs.Progress.{IsWorklist, AreFollowed}
use Rattle.path_facts.proofs.worklist.Worklist.follow_all.Given as goal

abbrev pub invariant-edges : goal.invariant-edges
invariant-edges l = record {
  work : IsWorklist l.graph l.proc l.tracks l.self.rows.items l.self.pending.items l.self.after;
  followed : AreFollowed l.graph l.proc l.tracks l.place l.number l.initial.self.rows.items l.initial.self.pending.items l.self.rows.items l.self.pending.items l.changed;
}
