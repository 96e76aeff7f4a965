use Rattle.std.proofs.Common.{◌≡◌, ◌+◌, ◌*◌, ◌≤◌}
use Rattle.std.specs.Prelude.{slice_index}
use Rattle.owner_vars.specs.Tables.{total, listed, interface_size, face_row}
use Rattle.owner_vars.proofs.tables.make_faces.Given as goal

abbrev pub invariant-loop-proc : goal.invariant-loop-proc
invariant-loop-proc l = record {
  items : l.items.items ≡ listed l.proc-index (face_row l.graph l.before l.procs);
  end : l.end ≡ l.before + total l.proc-index (λ j. interface_size l.graph (slice_index l.procs j));
  small : l.end ≤ l.before + 9 * l.proc-index;
}
