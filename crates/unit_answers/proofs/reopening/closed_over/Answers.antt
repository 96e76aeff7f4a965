use Rattle.unit_answers.proofs.GivenLemmas.{in_order}
use Rattle.unit_answers.proofs.reopening.closed_over.Goals as goal

pub returns : goal.returns
returns c = λ s U g table set. record {
  ascend = c.in_ok-lits.ensures.ascend;
  exact = in_order s U g c.args.table.now table c.args.own.now set c.args.given.now c.in_ok-trail.trail c.in_ok-trail.ensures.reopened c.in_ok-lits.lits.items c.in_ok-lits.ensures.same;
}
