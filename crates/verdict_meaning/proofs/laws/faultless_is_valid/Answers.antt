use Rattle.verdict_meaning.proofs.FaultlessLines.{faultless_is_valid}
use Rattle.verdict_meaning.proofs.laws.faultless_is_valid.Goals as goal

pub returns : goal.returns
returns c = faultless_is_valid
