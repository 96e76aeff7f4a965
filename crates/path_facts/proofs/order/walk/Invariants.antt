use Rattle.std.proofs.Common.{length}
use Rattle.flow_graph.specs.FlowGraph.{flow_of}
use Rattle.path_facts.specs.Search.{IsSearch}
use Rattle.path_facts.proofs.order.walk.Given as goal

abbrev pub invariant-steps : goal.invariant-steps
invariant-steps l =
    IsSearch (length (flow_of l.graph l.proc).places) l.search.seen.items l.search.entered.items l.search.placed.items l.search.order.items
