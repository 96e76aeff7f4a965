use Rattle.conflict_proof.proofs.ClauseLemmas.{zero_unknown}
use Rattle.conflict_proof.proofs.clauses.unsigned.Goals as goal

pub returns-then-n-eq0 : goal.returns-then-n-eq0
returns-then-n-eq0 c = zero_unknown c.args.text.now c.in_ok-n.n c.in_ok-n.rest.now c.in_ok-n.ensures c.if-n-eq0.true
