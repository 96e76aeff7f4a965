use Rattle.std.proofs.Common.{◌≡◌}
use Rattle.call_search.specs.Made.{before_group, AreBases}
use Rattle.call_search.proofs.certify.bases.Given as goal

abbrev pub invariant-loop-entries : goal.invariant-loop-entries
invariant-loop-entries l = record { bases : AreBases l.fn.table.items l.out.items l.entries-index; before : l.before ≡ before_group l.fn.table.items l.entries-index }
