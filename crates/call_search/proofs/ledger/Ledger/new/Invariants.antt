use Rattle.std.proofs.Common.{take}
use Rattle.call_search.specs.Indexes.{AreIndexed}
use Rattle.call_search.proofs.ledger.Ledger.new.Given as goal

abbrev pub invariant-loop-place : goal.invariant-loop-place
invariant-loop-place l = AreIndexed (take l.place l.fn.lines) l.groups.items
