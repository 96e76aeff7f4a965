use Rattle.std.proofs.Common.{sym, subst, List}
use Rattle.std.specs.List.{All}
use Rattle.c_types.specs.declared.kinds.SlotType.{SlotType}
use Rattle.flow_graph.specs.FlowGraph.{FlowGraph, flow_of}
use Rattle.flow_graph.specs.Fits.{TypeExists}
use Rattle.owner_vars.proofs.Sizes.{types_exist}
use Rattle.owner_vars.proofs.tables.rows_from.Goals as goal

pub make_slot_rows-requires-clause-types : goal.make_slot_rows-requires-clause-types
make_slot_rows-requires-clause-types c =
    let types = (c.law.ensures.graph.body c.args.proc c.requires.body).types in
    subst (λ (ts : List SlotType). All (TypeExists c.args.fields.now) ts) (sym c.slots.ensures)
    (subst (λ (h : FlowGraph). All (TypeExists h) (flow_of c.args.graph.now c.args.proc).slots) (sym c.requires.fields) (types_exist c.args.graph.now (flow_of c.args.graph.now c.args.proc).slots types))
