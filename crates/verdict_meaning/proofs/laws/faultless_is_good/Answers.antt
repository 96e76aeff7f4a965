use Rattle.verdict_meaning.proofs.Faultless.{faultless_is_good}
use Rattle.verdict_meaning.proofs.laws.faultless_is_good.Goals as goal

pub returns : goal.returns
returns c = faultless_is_good
