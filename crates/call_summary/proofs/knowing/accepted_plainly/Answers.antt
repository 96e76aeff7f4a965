use Rattle.call_summary.proofs.Knowns.{accepted_known, known_same, begin_same}
use Rattle.call_summary.proofs.knowing.accepted_plainly.Goals as goal

pub returns : goal.returns
returns c = λ s U budget are none is.
    accepted_known s U c.args.known.now budget c.args.certificate c.in_ok-lines.lines is none
    (known_same s U c.args.known.now c.in_ok-lines.lines.lines c.in_ok-lines.ensures are) (begin_same c.args.known.now c.in_ok-lines.lines.lines c.in_ok-lines.ensures)
