use Rattle.std.proofs.Common.{arith}
use Rattle.cert_checker.proofs.runs.run_end.Goals as goal

pub overflow_step-k : goal.overflow_step-k
overflow_step-k c = let e = c.len-len.ensures in let fits = c.len-len.type_inv in omega arith
