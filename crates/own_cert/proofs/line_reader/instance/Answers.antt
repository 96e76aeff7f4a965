use Rattle.conflict_proof.proofs.Cases.{some_from_test}
use Rattle.std.proofs.Common.{length}
use Rattle.own_cert.proofs.FormLemmas.{no_entry, more_entry}
use Rattle.own_cert.proofs.line_reader.instance.Goals as goal

pub returns-in_err-rest : goal.returns-in_err-rest
returns-in_err-rest c = rw c.from_residual.ensures (no_entry c.args.text.now c.in_err-rest.ensures.read)

pub returns-then-not-is_empty : goal.returns-then-not-is_empty
returns-then-not-is_empty c =
    more_entry c.args.text.now c.fill.new.numbers c.in_ok-rest.rest.now c.in_ok-rest.ensures.read c.in_ok-rest.ensures.len
    (some_from_test (length c.in_ok-rest.rest.now) c.if-not-is_empty.ensures)
