use Rattle.conflict_proof.proofs.Digits.{no_number, number_above, number_at}
use Rattle.conflict_proof.proofs.numbers.number_below.Goals as goal

pub returns-in_err-n : goal.returns-in_err-n
returns-in_err-n c = rw c.from_residual.ensures (no_number c.args.top c.args.text.now c.requires c.in_err-n.ensures)

pub returns-then-n-top : goal.returns-then-n-top
returns-then-n-top c = number_at c.args.top c.args.text.now c.in_ok-n.n c.in_ok-n.rest.now c.in_ok-n.ensures.1 c.if-n-top.true c.in_ok-n.ensures.2

pub returns : goal.returns
returns c = number_above c.args.top c.args.text.now c.in_ok-n.n c.requires c.in_ok-n.ensures.0 c.in_ok-n.ensures.1 c.if-n-top.false
