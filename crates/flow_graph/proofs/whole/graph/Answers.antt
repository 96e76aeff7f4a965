use Rattle.std.proofs.Common.{sym, subst}
use Rattle.flow_graph.specs.FlowGraph.{FlowGraph}
use Rattle.flow_graph.specs.Fits.{IsFlowGraph}
use Rattle.flow_graph.specs.GraphOf.{IsTypedGraph}
use Rattle.flow_graph.proofs.GraphLaw.{typed_graph, typed_graph_keeps}
use Rattle.flow_graph.proofs.whole.graph.Goals as goal

pub invariant_of-result : goal.invariant_of-result
invariant_of-result c = subst (λ (g : FlowGraph). IsTypedGraph g × IsFlowGraph g) (sym c.parts.view_is)
    (typed_graph c.args.typed.now c.args.parts c.requires.built, typed_graph_keeps c.args.typed.now c.args.parts c.requires.built c.requires.constants)
