use Rattle.std.proofs.Common.{◌≡◌, [], ap}
use Rattle.unit_answers.specs.Trails.{Trail}
use Rattle.unit_answers.proofs.GivenLemmas.{opened_by}
use Rattle.unit_answers.proofs.reopening.opened.Goals as goal

pub returns-clause-opened : goal.returns-clause-opened
returns-clause-opened c =
    let empty : c.in_ok-trail.trail.findings ≡ [] = ap (λ (t : Trail). t.findings) c.in_ok-trail.ensures in
    opened_by c.args.own.now c.args.given.now c.in_ok-trail.trail c.give.new.trail c.give-2.new.trail empty c.in_ok-give.ensures c.in_ok-give-2.ensures
