use Rattle.std.proofs.Common.{◌≡◌, ℕ, ◌<◌, [], length, get_or}
use Rattle.path_facts.specs.Tables.{IsTableOf}
use Rattle.path_facts.proofs.solve.facts.Given as goal

abbrev pub invariant-procs : goal.invariant-procs
invariant-procs l = record {
  count : length l.tables.items ≡ l.proc;
  tables : (k : ℕ) → k < l.proc → IsTableOf l.graph k (get_or l.tables.items k []);
}
