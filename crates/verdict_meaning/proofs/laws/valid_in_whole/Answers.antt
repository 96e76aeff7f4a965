use Rattle.verdict_meaning.proofs.Scopes.{valid_in_whole}
use Rattle.verdict_meaning.proofs.laws.valid_in_whole.Goals as goal

pub returns : goal.returns
returns c = valid_in_whole
