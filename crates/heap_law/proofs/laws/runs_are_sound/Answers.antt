use Rattle.heap_law.proofs.Runs.{runs_are_sound}
use Rattle.heap_law.proofs.laws.runs_are_sound.Goals as goal

pub returns : goal.returns
returns c = runs_are_sound
