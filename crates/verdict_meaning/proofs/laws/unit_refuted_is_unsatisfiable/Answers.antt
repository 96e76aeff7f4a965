use Rattle.verdict_meaning.proofs.Propagated.{unit_refuted_is_unsatisfiable}
use Rattle.verdict_meaning.proofs.laws.unit_refuted_is_unsatisfiable.Goals as goal

pub returns : goal.returns
returns c = unit_refuted_is_unsatisfiable
