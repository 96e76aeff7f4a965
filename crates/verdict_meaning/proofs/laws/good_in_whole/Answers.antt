use Rattle.verdict_meaning.proofs.Scopes.{good_in_whole}
use Rattle.verdict_meaning.proofs.laws.good_in_whole.Goals as goal

pub returns : goal.returns
returns c = good_in_whole
