use Rattle.std.proofs.Common.{length, ap, arith}
use Rattle.transfer_rules.proofs.Few.{few_slots}
use Rattle.transfer_rules.proofs.index.pointers_of.Goals as goal

pub overflow_cast-x : goal.overflow_cast-x
overflow_cast-x c =
    let few = few_slots c.args.graph.now c.args.proc c.requires.graph c.requires.body in
    let long = ap length c.slots-kinds.ensures in
    let lt = c.loop-x-test.true in
    omega arith
