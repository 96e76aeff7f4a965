use Rattle.transfer_rules.specs.Names.{in_scope}
use Rattle.verdict_meaning.specs.Programs.{system_in}
use Rattle.call_summary.proofs.Bounds.{whole_answer, over_answer, spent_by_units}
use Rattle.call_summary.proofs.Left.{valid_stand_back}
use Rattle.call_summary.proofs.inferring.infer_in.Goals as goal

pub refuted-requires-clause-back : goal.refuted-requires-clause-back
refuted-requires-clause-back c =
    let s = system_in c.args.program.now in
    let U = in_scope c.args.scope.now in
    valid_stand_back s U c.in-Some-Whole.derivation.lines
    (whole_answer s U c.args.budget c.in_ok-derivation.field-0 c.in-Some-Whole.field-0 c.in-Some-Whole.derivation c.in_ok-derivation.ensures c.in-Some-Whole.is c.in-Some-Whole.field-0-is).1.valid

pub returns-in-Some-Over : goal.returns-in-Some-Over
returns-in-Some-Over c =
    let s = system_in c.args.program.now in
    let U = in_scope c.args.scope.now in
    let here = over_answer s U c.args.budget c.in_ok-derivation.field-0 c.in-Some-Over.field-0 c.in-Some-Over.derivation c.in_ok-derivation.ensures c.in-Some-Over.is c.in-Some-Over.field-0-is in
    spent_by_units c.laws.ensures.bound c.laws.ensures.apart s U c.in-Some-Over.derivation.lines c.args.budget here.0 here.1
