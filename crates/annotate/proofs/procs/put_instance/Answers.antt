use Rattle.std.proofs.Common.{◌<◌, length, subst, sym}
use Rattle.std.specs.List.{All}
use Rattle.flow_graph.specs.FlowGraph.{flow_of}
use Rattle.annotate.proofs.TextRows.{locals_within}
use Rattle.annotate.proofs.procs.put_instance.Goals as goal

pub put_locals-requires-clause-slots : goal.put_locals-requires-clause-slots
put_locals-requires-clause-slots c =
    let g = c.args.source.now.graph.now in
    subst (λ ls. All (λ l. l.slot < length (flow_of g c.args.proc).slots) ls) (sym c.requires.locals) (locals_within c.args.source.now.typed.now g c.args.proc)
