use Rattle.std.proofs.Common.{◌≡◌, [], ap, arith}
use Rattle.unit_answers.proofs.Forcing.{forces_none}
use Rattle.unit_answers.proofs.Entering.{entered_settled}
use Rattle.unit_answers.specs.Trails.{Trail}
use Rattle.unit_answers.proofs.closing.root_set.Goals as goal

pub returns-clause-settled : goal.returns-clause-settled
returns-clause-settled c = λ s is.
    let t = c.enter.new.trail in
    entered_settled s c.args.layout.now is c.args.root c.requires.root [] c.args.lower.now c.requires.lower t t _
    c.in_ok-set.ensures.same (c.in_ok-enter.ensures.entered s [] is) (forces_none [] t) (λ k row at. cc)

pub returns-clause-within : goal.returns-clause-within
returns-clause-within c = λ l there.
    let most = c.in_ok-set.ensures.within l there in
    let before = c.in_ok-enter.ensures.unknowns in
    let begun : c.in_ok-trail.trail.unknowns ≡ c.count_of.result = ap (λ (t : Trail). t.unknowns) c.in_ok-trail.ensures in
    let count = c.count_of.ensures.count in
    omega arith
