use Rattle.std.proofs.Common.{◌≡◌, length}
use Rattle.c_grammar.specs.Reading.{consts}
use Rattle.c_parser.proofs.types.consts.Given as goal

abbrev pub invariant-loop-next : goal.invariant-loop-next
invariant-loop-next l = consts l.at l.rest ≡ consts l.fn.at l.tokens

abbrev pub decreases-loop-next : goal.decreases-loop-next
decreases-loop-next l = length l.rest
