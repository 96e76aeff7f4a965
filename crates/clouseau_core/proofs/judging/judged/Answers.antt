use Rattle.clouseau_core.proofs.Verdicts.{judged_of}
use Rattle.clouseau_core.proofs.judging.judged.Goals as goal

pub returns : goal.returns
returns c =
    let i = c.in_ok-inferred.inferred in (
      rw c.in_ok-verdict.ensures (judged_of c.args.way c.args.budget c.args.program.now i c.in_ok-out.out.items c.in_ok-inferred.ensures c.in_ok-out.ensures),
      c.new.ensures.items,
    )
