use Rattle.std.proofs.Common.{refl}
use Rattle.c_parser.proofs.Paths.{enclosed_first}
use Rattle.c_parser.proofs.simple.release.Goals as goal

pub returns-then-limit-eq1 : goal.returns-then-limit-eq1
returns-then-limit-eq1 c = record { read = rw (c.if-limit-eq1.true, enclosed_first) refl }
