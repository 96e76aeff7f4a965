use Rattle.std.proofs.Common.{◌≡◌, ◌*◌, ◌≤◌}
use Rattle.owner_vars.specs.Tables.{total, listed, size_at, slot_row}
use Rattle.owner_vars.proofs.tables.make_slot_rows.Given as goal

abbrev pub invariant-loop-kind : goal.invariant-loop-kind
invariant-loop-kind l = record {
  items : l.items.items ≡ listed l.kind-index (slot_row l.fields l.types);
  width : l.width ≡ total l.kind-index (size_at l.fields l.types);
  small : l.width ≤ 65 * l.kind-index;
}
