use Rattle.std.proofs.Common.{◌≡◌, length, arith}
use Rattle.conflict_proof.specs.Fronts.{digit_run}
use Rattle.own_cert.proofs.FormLemmas.{no_end, more_end}
use Rattle.own_cert.proofs.line_reader.end.Goals as goal

pub returns-in_err-count : goal.returns-in_err-count
returns-in_err-count c = rw c.from_residual.ensures (no_end c.args.text.now c.in_err-count.ensures.none)

pub returns-then-end-text : goal.returns-then-end-text
returns-then-end-text c =
    more_end c.args.text.now (λ (e : length (digit_run c.args.text.now) ≡ length c.args.text.now). c.if-end-text.true (omega (arith, e, c.in_ok-count.ensures.end)))
