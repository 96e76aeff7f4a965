use Rattle.conflict_proof.proofs.Cases.{some_case}
use Rattle.conflict_proof.proofs.ClauseLemmas.{clause_place}
use Rattle.conflict_proof.proofs.clauses.literals.Goals as goal

pub returns-in-Some-clause-clause : goal.returns-in-Some-clause-clause
returns-in-Some-clause-clause c =
    clause_place c.args.text.now c.split_at.result.1.now c.in-Some.rest.now c.in-Some.lits c.args.at c.split_at.ensures.back
    (some_case _ _ c.in_ok-lits.field-0 (c.in-Some.lits, c.in-Some.rest) c.in_ok-lits.ensures c.in-Some.is)
