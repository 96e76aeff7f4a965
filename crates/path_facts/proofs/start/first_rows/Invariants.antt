use Rattle.std.proofs.Common.{◌≡◌, length}
use Rattle.path_facts.specs.Progress.{AreFirstRows}
use Rattle.path_facts.proofs.start.first_rows.Given as goal

abbrev pub invariant-places : goal.invariant-places
invariant-places l = record {
  rows : AreFirstRows l.graph l.proc l.tracks l.rows.items;
  count : length l.rows.items ≡ l.counter;
}
