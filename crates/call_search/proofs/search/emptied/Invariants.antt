use Rattle.call_search.specs.Entries.{AreEmpty}
use Rattle.call_search.proofs.search.emptied.Given as goal

abbrev pub invariant-loop-k : goal.invariant-loop-k
invariant-loop-k l = AreEmpty l._k l.table.items
