use Rattle.verdict_meaning.proofs.Conditions.{names_apart}
use Rattle.verdict_meaning.proofs.laws.names_are_apart.Goals as goal

pub returns : goal.returns
returns c = names_apart
