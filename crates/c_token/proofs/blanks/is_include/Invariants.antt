use Rattle.std.proofs.Common.{◌≡◌, length}
use Rattle.c_token.specs.Blanks.{skip_gaps}
use Rattle.c_token.proofs.blanks.is_include.Given as goal

abbrev pub invariant-loop-first : goal.invariant-loop-first
invariant-loop-first l = skip_gaps l.rest ≡ skip_gaps l.bytes

abbrev pub decreases-loop-first : goal.decreases-loop-first
decreases-loop-first l = length l.rest
