use Rattle.std.proofs.Common.{rules, ◌≡◌, true, length, sym, arith}
use Rattle.flow_graph.specs.FlowGraph.{flow_of}
use Rattle.annotate.specs.Locals.{owns_at}
use Rattle.annotate.proofs.LocalRows.{any_found}
use Rattle.annotate.proofs.locals.local_owns.Goals as goal

pub returns-then-place_bit : goal.returns-then-place_bit
returns-then-place_bit c =
    let test : owns_at c.args.source.now.facts.now c.args.proc c.args.rows.now c.args.local c.loop-place.place ≡ true = search rules in
    sym (any_found (length (flow_of c.args.source.now.graph.now c.args.proc).places) c.loop-place.place (owns_at c.args.source.now.facts.now c.args.proc c.args.rows.now c.args.local) (search rules) test)
