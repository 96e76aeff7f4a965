use Rattle.std.proofs.Common.{arith}
use Rattle.call_summary.proofs.Left.{lead_back, are_left}
use Rattle.call_summary.proofs.trimming.left_marks.Goals as goal

pub needed_lines-requires : goal.needed_lines-requires
needed_lines-requires c = lead_back c.args.lines.now c.requires.back

pub set_front-requires : goal.set_front-requires
set_front-requires c = omega (arith, c.requires.first, c.in_ok-marks.ensures.count)

pub returns : goal.returns
returns c = are_left c.args.lines.now c.args.first c.in_ok-marks.marks.items c.set_front.new.marks.items c.requires.first c.requires.back c.in_ok-marks.ensures c.set_front.ensures
