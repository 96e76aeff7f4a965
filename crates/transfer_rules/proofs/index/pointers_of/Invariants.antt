use Rattle.std.proofs.Common.{◌≡◌, [], ◌∷◌}
use Rattle.c_types.specs.Types.{is_pointer}
use Rattle.flow_graph.specs.FlowGraph.{slot_type}
use Rattle.field_rules.specs.Lists.{gather, when}
use Rattle.transfer_rules.proofs.index.pointers_of.Given as goal

abbrev pub invariant-loop-x : goal.invariant-loop-x
invariant-loop-x l = l.items.items ≡ gather l.x (λ x. when (is_pointer (slot_type l.graph l.proc x)) (x ∷ []))
