use Rattle.std.proofs.Common.{◌+◌, arith}
use Rattle.proof_checker.proofs.LineLemmas.{next_line, from_group, from_later, range_by, match_true, match_false}
use Rattle.proof_checker.proofs.ranges.is_in_range.Goals as goal

pub returns-then-line-root : goal.returns-then-line-root
returns-then-line-root g c = from_group _ _ c.args.lines.now (c.args.k + 1) c.args.line.now (next_line c.args.lines.now c.args.k c.args.line.now c.requires) (omega arith)

pub returns-then-not-are_earlier : goal.returns-then-not-are_earlier
returns-then-not-are_earlier g c =
    from_later _ _ c.args.lines.now (c.args.k + 1) c.args.line.now (next_line c.args.lines.now c.args.k c.args.line.now c.requires)
    (match_false c.are_earlier.result _ _ c.if-not-are_earlier.true c.are_earlier.ensures)

pub returns : goal.returns
returns g c =
    range_by _ _ c.args.lines.now (c.args.k + 1) c.args.line.now c.are_known.result c.lits.result.now c.count.result
    (next_line c.args.lines.now c.args.k c.args.line.now c.requires) (omega arith) (match_true c.are_earlier.result _ _ c.if-not-are_earlier.false c.are_earlier.ensures)
    c.lits.ensures.canonical c.lits.ensures.lits c.count.ensures c.are_known.ensures
