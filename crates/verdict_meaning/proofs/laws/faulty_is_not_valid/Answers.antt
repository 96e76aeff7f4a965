use Rattle.verdict_meaning.proofs.Faults.{faulty_is_not_valid}
use Rattle.verdict_meaning.proofs.laws.faulty_is_not_valid.Goals as goal

pub returns : goal.returns
returns c = faulty_is_not_valid
