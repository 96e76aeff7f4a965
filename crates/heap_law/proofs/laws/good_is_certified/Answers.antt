use Rattle.verdict_meaning.specs.Programs.{system_of}
use Rattle.heap_law.proofs.Certified.{certified}
use Rattle.heap_law.proofs.laws.good_is_certified.Goals as goal

pub returns : goal.returns
returns c g facts groups cert program good =
    certified g facts (system_of g facts groups) cert program.graph program.facts_are (c.field_laws.ensures.fields g) (λ k. c.field_laws.ensures.parts g k)
    (c.system_is_of_graph.ensures g facts groups program.graph program.grouping) good
