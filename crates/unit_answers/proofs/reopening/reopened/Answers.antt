use Rattle.unit_answers.proofs.GivenLemmas.{reopened_by}
use Rattle.unit_answers.proofs.reopening.reopened.Goals as goal

pub returns-clause-reopened : goal.returns-clause-reopened
returns-clause-reopened c =
    reopened_by c.args.own.now c.args.given.now c.args.table.now c.in_ok-trail.trail c.settle.new.trail c.in_ok-trail.ensures.opened c.in_ok-settle.ensures.forces c.in_ok-settle.ensures.closed
