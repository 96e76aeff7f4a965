use Rattle.call_search.proofs.Held.{IsGathering}
use Rattle.call_search.proofs.keeping.gather.Given as goal

abbrev pub invariant-loop-group : goal.invariant-loop-group
invariant-loop-group l = IsGathering l.fn.kept.items l.fn.table.items l.kept.items l.table.items l.group
