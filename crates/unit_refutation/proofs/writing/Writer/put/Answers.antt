use Rattle.std.proofs.Common.{◌≡◌, ◌+◌, length, rules, arith}
use Rattle.unit_refutation.proofs.LineLemmas.{length_cost}
use Rattle.unit_refutation.proofs.writing.Writer.put.Goals as goal

pub overflow_cast-result : goal.overflow_cast-result
overflow_cast-result c =
    let n : c.len.result ≡ length c.args.self.now.lines.items + 1 = search rules in
    let w = c.requires.within in
    omega (arith, n, length_cost c.args.self.now.lines.items, w.cost, w.within)
