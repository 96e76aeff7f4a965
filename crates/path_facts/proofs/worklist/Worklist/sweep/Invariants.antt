use Rattle.std.proofs.Common.{◌≡◌, ℕ, ◌<◌, true, false, get_or}
use Rattle.path_facts.specs.Progress.{is_pending, total, IsWorklist, IsSettled}
use Rattle.path_facts.proofs.worklist.Worklist.sweep.Given as goal

abbrev pub invariant-places : goal.invariant-places
invariant-places l = record {
  work : IsWorklist l.graph l.proc l.tracks l.self.rows.items l.self.pending.items l.self.after;
  settled : IsSettled l.graph l.proc l.tracks l.self.rows.items l.self.pending.items;
  falls : l.changed ≡ true → total l.self.rows.items < total l.initial.self.rows.items;
  same_rows : l.changed ≡ false → l.self.rows.items ≡ l.initial.self.rows.items;
  visited : l.changed ≡ false → (j : ℕ) → j < l.place-index → is_pending l.self.pending.items (get_or l.order j 0) ≡ false;
}
