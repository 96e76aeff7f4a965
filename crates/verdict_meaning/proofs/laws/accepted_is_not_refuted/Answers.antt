use Rattle.verdict_meaning.proofs.Refuting.{accepted_is_not_refuted}
use Rattle.verdict_meaning.proofs.laws.accepted_is_not_refuted.Goals as goal

pub returns : goal.returns
returns c = accepted_is_not_refuted
