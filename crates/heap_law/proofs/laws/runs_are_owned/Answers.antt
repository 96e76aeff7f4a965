use Rattle.heap_law.proofs.Runs.{runs_are_owned}
use Rattle.heap_law.proofs.laws.runs_are_owned.Goals as goal

pub returns : goal.returns
returns c = runs_are_owned
