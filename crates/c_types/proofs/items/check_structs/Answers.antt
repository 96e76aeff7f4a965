use Rattle.std.proofs.Common.{arith}
use Rattle.std.proofs.lemmas.Grind.{common_steps}
use Rattle.c_types.proofs.Firsts.{sooner_right}
use Rattle.c_types.proofs.items.check_structs.Goals as goal

pub returns : goal.returns
returns c = grind (arith, common_steps, sooner_right, c.loop-d.invariant, c.loop-d-test.false)
