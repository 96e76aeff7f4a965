use Rattle.std.proofs.Common.{◌≡◌, length}
use Rattle.std.specs.Prelude.{option_and_then}
use Rattle.c_grammar.specs.Reading.{after_const, read_base}
use Rattle.c_parser.proofs.types.base.Given as goal

abbrev pub invariant-loop-next : goal.invariant-loop-next
invariant-loop-next l = read_base l.tokens ≡ option_and_then (after_const l.first.token.now) (read_base l.rest)

abbrev pub decreases-loop-next : goal.decreases-loop-next
decreases-loop-next l = length l.rest
