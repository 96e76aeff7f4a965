use Rattle.verdict_meaning.proofs.Propagated.{plain_is_satisfiable}
use Rattle.verdict_meaning.proofs.laws.plain_is_satisfiable.Goals as goal

pub returns : goal.returns
returns c = plain_is_satisfiable
