use Rattle.heap_law.proofs.Runs.{steps_keep_sound}
use Rattle.heap_law.proofs.laws.steps_keep_sound.Goals as goal

pub returns : goal.returns
returns c = steps_keep_sound
