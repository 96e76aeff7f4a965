use Rattle.call_search.specs.Entries.{AreEmpty}
use Rattle.plain_answers.proofs.filling.blank.Given as goal

abbrev pub invariant-loop-group : goal.invariant-loop-group
invariant-loop-group l = AreEmpty l._group l.table.items
