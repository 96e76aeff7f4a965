use Rattle.std.proofs.Common.{◌≡◌, ◌≤◌, ◌+◌, drop}
use Rattle.flow_graph.specs.Fits.{pointer_count}
use Rattle.transfer_rules.proofs.body.pointer_count.Given as goal

abbrev pub invariant-loop-kind : goal.invariant-loop-kind
invariant-loop-kind l = record {
  exact : l.count + pointer_count (drop l.kind-index l.kinds) ≡ pointer_count l.kinds;
  small : l.count ≤ l.kind-index;
}
