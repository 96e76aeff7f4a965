use Rattle.verdict_meaning.proofs.Programs.{is_of_graph}
use Rattle.verdict_meaning.proofs.laws.system_is_of_graph.Goals as goal

pub returns : goal.returns
returns c g facts groups graph grouping =
    is_of_graph g facts groups graph grouping (λ ms ascend. c.unknown_laws.ensures.numbers g ms ascend)
    (λ firsts. c.unknown_laws.ensures.root_numbers g firsts) (λ ms ascend bodies. c.site_laws.ensures g ms graph ascend bodies) (λ ms t. c.rule_laws.ensures g facts ms t)
