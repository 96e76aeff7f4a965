use Rattle.own_cert.proofs.FormLemmas.{no_digits}
use Rattle.own_cert.proofs.line_reader.digits.Goals as goal

pub returns-in_default : goal.returns-in_default
returns-in_default c = no_digits c.args.text.now c.loop-byte.byte-index c.loop-byte-test.true c.in_default.ensures
