use Rattle.std.proofs.Common.{rules}
use Rattle.heap_meaning.proofs.Runs.{first_by}
use Rattle.heap_meaning.proofs.steps.first_state.Goals as goal

pub returns-clause-shape : goal.returns-clause-shape
returns-clause-shape c = first_by c.args.graph.now c.law.ensures.graph _ (search rules)
