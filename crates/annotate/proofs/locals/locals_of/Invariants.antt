use Rattle.std.proofs.Common.{◌≡◌, ◌*◌, ◌≤◌, [], ◌∷◌, cond}
use Rattle.flow_graph.specs.FlowGraph.{flow_of}
use Rattle.owner_vars.specs.Unknowns.{gather}
use Rattle.owner_vars.specs.Tables.{total, size_at}
use Rattle.annotate.specs.Locals.{is_local, local_at}
use Rattle.annotate.proofs.locals.locals_of.Given as goal

abbrev pub invariant-loop-slot : goal.invariant-loop-slot
invariant-loop-slot l = record {
  items : l.locals.items ≡ gather l.slot (λ x. cond (is_local l.source.typed.now l.source.graph.now l.proc x) (local_at l.source.graph.now l.proc x ∷ []) []);
  bit : l.bit ≡ total l.slot (size_at l.source.graph.now (flow_of l.source.graph.now l.proc).slots);
  small : l.bit ≤ 65 * l.slot;
}
