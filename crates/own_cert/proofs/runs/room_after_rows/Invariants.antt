use Rattle.std.proofs.Common.{◌≡◌, ◌+◌, take}
use Rattle.own_cert.specs.Text.{row_bits}
use Rattle.own_cert.proofs.runs.room_after_rows.Given as goal

abbrev pub invariant-loop-row : goal.invariant-loop-row
invariant-loop-row l = l.bits + row_bits (take l.row-index l.rows) ≡ l.room.bits
