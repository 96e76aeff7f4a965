use Rattle.std.proofs.Common.{◌≡◌, ◌+◌, ◌≤◌, take}
use Rattle.flow_graph.specs.Fits.{pointer_count}
use Rattle.owner_vars.specs.Tables.{listed, member_row}
use Rattle.owner_vars.proofs.field_walk.member_rows.Given as goal

abbrev pub invariant-loop-kind : goal.invariant-loop-kind
invariant-loop-kind l = record {
  rows : l.rows.items ≡ listed l.kind-index (member_row l.first l.kinds);
  number : l.number ≡ l.first + pointer_count (take l.kind-index l.kinds);
  small : l.number ≤ l.first + l.kind-index;
}
