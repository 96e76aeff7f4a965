use Rattle.group_solver.proofs.Reading.{upto_all}
use Rattle.group_solver.proofs.clauses.is_clause.Goals as goal

pub returns : goal.returns
returns c is = upto_all c.args.vars c.loop-lit.last c.loop-lit.lit-index c.args.lits.now c.loop-lit-test.false c.loop-lit.invariant
