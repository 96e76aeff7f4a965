use Rattle.std.proofs.Common.{◌≡◌, ℕ, [], length}
use Rattle.plain_answers.specs.Wants.{wants_in}
use Rattle.plain_answers.proofs.wants.unasked.Given as goal

abbrev pub invariant-loop-group : goal.invariant-loop-group
invariant-loop-group l = (length l.wanted.items ≡ l._group) × ((h : ℕ) → wants_in l.wanted.items h ≡ [])
