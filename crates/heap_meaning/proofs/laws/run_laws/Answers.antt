use Rattle.heap_meaning.proofs.Shapes.{steps_keep_shape}
use Rattle.heap_meaning.proofs.Runs.{runs_keep_shape}
use Rattle.heap_meaning.proofs.laws.run_laws.Goals as goal

pub returns-clause-steps : goal.returns-clause-steps
returns-clause-steps c = steps_keep_shape

pub returns-clause-runs : goal.returns-clause-runs
returns-clause-runs c = runs_keep_shape
