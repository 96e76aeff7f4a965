use Rattle.conflict_proof.proofs.ClauseLemmas.{signed_after}
use Rattle.conflict_proof.proofs.clauses.signed.Goals as goal

pub returns-in-Some : goal.returns-in-Some
returns-in-Some c = signed_after c.args.text.now c.in-Some.rest.now c.unsigned.result c.in-Some.ensures c.unsigned.ensures
