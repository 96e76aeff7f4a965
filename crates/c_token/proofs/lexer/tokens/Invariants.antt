use Rattle.std.proofs.Common.{length}
use Rattle.c_token.proofs.StandLaws.{Stands}
use Rattle.c_token.proofs.lexer.tokens.Given as goal

abbrev pub invariant-loop-rest : goal.invariant-loop-rest
invariant-loop-rest l = Stands l.bytes l.position l.rest l.tokens.items

abbrev pub decreases-loop-rest : goal.decreases-loop-rest
decreases-loop-rest l = length l.rest
