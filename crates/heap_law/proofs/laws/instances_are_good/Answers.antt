use Rattle.heap_law.proofs.Instances.{instances_good}
use Rattle.heap_law.proofs.laws.instances_are_good.Goals as goal

pub returns : goal.returns
returns c g facts members value marking graph are = instances_good g facts members value marking graph (c.field_laws.ensures.fields g) are
