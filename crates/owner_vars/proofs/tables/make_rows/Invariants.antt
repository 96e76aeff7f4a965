use Rattle.std.proofs.Common.{◌≡◌, ◌+◌}
use Rattle.std.specs.Prelude.{slice_index}
use Rattle.owner_vars.specs.Tables.{total, listed, rows_size, rows_row}
use Rattle.owner_vars.proofs.tables.make_rows.Given as goal

abbrev pub invariant-loop-member : goal.invariant-loop-member
invariant-loop-member l = record {
  items : l.items.items ≡ listed l.member-index (rows_row l.graph l.before l.members);
  end : l.end ≡ l.before + total l.member-index (λ j. rows_size l.graph (slice_index l.members j));
}
