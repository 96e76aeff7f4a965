use Rattle.std.proofs.Common.{arith}
use Rattle.std.proofs.lemmas.Grind.{common_steps}
use Rattle.c_types.proofs.Firsts.{sooner_right}
use Rattle.c_types.proofs.items.check_params.Goals as goal

pub returns-clause-first : goal.returns-clause-first
returns-clause-first c = grind (arith, common_steps, sooner_right, c.loop-m.invariant.first, c.loop-m-test.false)
