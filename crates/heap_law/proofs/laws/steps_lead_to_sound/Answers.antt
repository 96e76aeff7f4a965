use Rattle.heap_law.proofs.Runs.{steps_lead_to_sound}
use Rattle.heap_law.proofs.laws.steps_lead_to_sound.Goals as goal

pub returns : goal.returns
returns c = steps_lead_to_sound
