use Rattle.std.proofs.Common.{length}
use Rattle.conflict_proof.proofs.Cases.{some_from_test}
use Rattle.own_cert.proofs.FormLemmas.{no_sites}
use Rattle.own_cert.proofs.line_reader.sites.Goals as goal

pub returns-then-not-is_empty : goal.returns-then-not-is_empty
returns-then-not-is_empty c =
    let l = c.loop-site in
    no_sites c.args.text.now l.items.items l.rest.now l.invariant.text l.invariant.small l.invariant.ends c.in_default.ensures (some_from_test (length l.rest.now) c.if-not-is_empty.ensures)
