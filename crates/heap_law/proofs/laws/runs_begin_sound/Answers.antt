use Rattle.heap_law.proofs.Runs.{runs_begin_sound}
use Rattle.heap_law.proofs.laws.runs_begin_sound.Goals as goal

pub returns : goal.returns
returns c = runs_begin_sound
