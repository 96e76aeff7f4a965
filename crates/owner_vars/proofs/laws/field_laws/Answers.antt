use Rattle.flow_graph.specs.FlowGraph.{flow_of}
use Rattle.owner_vars.proofs.LawLemmas.{fields_law, parts_law}
use Rattle.owner_vars.proofs.laws.field_laws.Goals as goal

pub returns-clause-fields : goal.returns-clause-fields
returns-clause-fields c g = fields_law g

pub returns-clause-parts : goal.returns-clause-parts
returns-clause-parts c g k = parts_law (flow_of g k)
