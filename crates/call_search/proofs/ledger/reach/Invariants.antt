use Rattle.std.proofs.Common.{◌≡◌, ◌+◌, length}
use Rattle.call_search.specs.Indexes.{AreSame}
use Rattle.call_search.proofs.Indexing.{Reached}
use Rattle.call_search.proofs.ledger.reach.Given as goal

abbrev pub invariant-loop : goal.invariant-loop
invariant-loop l = Reached l.fn.groups.items l.groups.items l.counter
