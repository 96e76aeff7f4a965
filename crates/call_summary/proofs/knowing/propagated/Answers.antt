use Rattle.transfer_rules.specs.Names.{in_scope}
use Rattle.verdict_meaning.specs.Programs.{system_in}
use Rattle.call_summary.proofs.Bounds.{over_answer}
use Rattle.call_summary.proofs.knowing.propagated.Goals as goal

pub searched-requires-clause-plain : goal.searched-requires-clause-plain
searched-requires-clause-plain c = λ p.
    let s = system_in c.args.groups.now.shapes.program.now in
    let U = in_scope c.args.groups.now.scope.now in
    c.laws.ensures.apart s U (over_answer s U c.args.budget c.in_ok-derivation.field-0 c.in-Some-Over.field-0 c.in-Some-Over.field-0-0 c.in_ok-derivation.ensures c.in-Some-Over.is c.in-Some-Over.field-0-is).0 p
