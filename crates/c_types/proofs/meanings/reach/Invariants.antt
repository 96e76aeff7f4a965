use Rattle.std.proofs.Common.{◌≡◌, ◌+◌, ◌-◌, ℕ, None, length, slice_index_or}
use Rattle.c_types.proofs.meanings.reach.Given as goal

abbrev pub invariant-loop-row : goal.invariant-loop-row
invariant-loop-row l = (n : ℕ) → slice_index_or l.row.items n None ≡ slice_index_or l.fn.row.items n None

abbrev pub decreases-loop-row : goal.decreases-loop-row
decreases-loop-row l = l.place + 1 - length l.row.items
