use Rattle.verdict_meaning.proofs.Refuting.{refuted_is_unsatisfiable}
use Rattle.verdict_meaning.proofs.laws.refuted_is_unsatisfiable.Goals as goal

pub returns : goal.returns
returns c = refuted_is_unsatisfiable
