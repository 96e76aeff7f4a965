use Rattle.std.proofs.Common.{◌≡◌, ap, arith}
use Rattle.unit_answers.proofs.Entering.{entered_settled}
use Rattle.unit_answers.specs.Trails.{Trail}
use Rattle.unit_answers.proofs.closing.group_set.Goals as goal

pub returns-clause-settled : goal.returns-clause-settled
returns-clause-settled c = λ s is.
    let rows = c.args.table.now in
    let up = c.in_ok-settle.ensures in
    entered_settled s c.args.layout.now is c.args.group c.requires.group rows c.args.lower.now c.requires.lower c.enter.new.trail c.settle.new.trail _
    c.in_ok-set.ensures.same (c.in_ok-enter.ensures.entered s rows is) up.forces up.closed

pub returns-clause-within : goal.returns-clause-within
returns-clause-within c = λ l there.
    let most = c.in_ok-set.ensures.within l there in
    let same = c.in_ok-settle.ensures.forces.grows.unknowns in
    let before = c.in_ok-enter.ensures.unknowns in
    let begun : c.in_ok-trail.trail.unknowns ≡ c.count_of-unknowns.result = ap (λ (t : Trail). t.unknowns) c.in_ok-trail.ensures in
    let count = c.count_of-unknowns.ensures.count in
    omega arith
