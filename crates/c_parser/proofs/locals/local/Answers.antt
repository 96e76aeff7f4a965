use Rattle.std.proofs.Common.{sym, refl}
use Rattle.c_parser.proofs.Stages.{line_at_none}
use Rattle.c_parser.proofs.locals.local.Goals as goal

pub returns-then-limit-eq1-clause-read : goal.returns-then-limit-eq1-clause-read
returns-then-limit-eq1-clause-read c = rw (c.if-limit-eq1.true, c.in_ok-declarator.ensures, sym c.in-Some.ensures, line_at_none) refl
