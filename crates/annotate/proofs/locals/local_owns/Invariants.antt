use Rattle.std.proofs.Common.{◌≡◌, false}
use Rattle.annotate.specs.Locals.{any_below, owns_at}
use Rattle.annotate.proofs.locals.local_owns.Given as goal

abbrev pub invariant-loop-place : goal.invariant-loop-place
invariant-loop-place l = any_below l.place (owns_at l.source.facts.now l.proc l.rows l.local) ≡ false
