use Rattle.conflict_proof.proofs.Cases.{some_case}
use Rattle.own_cert.proofs.ReadLemmas.{step_of}
use Rattle.own_cert.proofs.reader.step.Goals as goal

pub returns-in-Some : goal.returns-in-Some
returns-in-Some c =
    step_of c.args.state c.args.bytes.now c.in-Some.line c.next.result (some_case _ _ c.in_ok-line.field-0 c.in-Some.line c.in_ok-line.ensures c.in-Some.is) c.next.ensures
