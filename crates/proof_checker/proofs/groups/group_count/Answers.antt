use Rattle.std.proofs.Common.{◌≡◌, length, arith, rules}
use Rattle.proof_checker.proofs.GroupLemmas.{few}
use Rattle.proof_checker.proofs.groups.group_count.Goals as goal

pub overflow_cast-result : goal.overflow_cast-result
overflow_cast-result c =
    let le = few c.args.program.now.graph c.args.program.now.groups c.law.ensures.groups in
    let bodies = c.law.ensures.fits.bodies in
    let procs = c.law.ensures.fits.proc_count in
    let same : c.len.result ≡ length c.args.program.now.groups = search rules in
    omega arith
