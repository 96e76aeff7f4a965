use Rattle.std.proofs.Common.{◌≡◌, ℕ, List, sym, subst}
use Rattle.flow_graph.specs.Numbers.{sorted}
use Rattle.flow_graph.proofs.NumbersKeys.{sorted-sorted}
use Rattle.flow_graph.proofs.flows.tables_of.Goals as goal

pub invariant_of-numbers : goal.invariant_of-numbers
invariant_of-numbers c = subst (λ (ks : List ℕ). sorted ks ≡ ks) (sym c.in_order-temps.ensures) (sorted-sorted c.in_ok-temp_keys.field-0.items)
