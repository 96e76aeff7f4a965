use Rattle.std.proofs.Common.{◌≡◌, suc, ◌≤◌, drop, take}
use Rattle.std.specs.Prelude.{count_by}
use Rattle.c_token.specs.Bytes.{is_line_feed}
use Rattle.c_token.specs.Reading.{col_after}
use Rattle.source_program.proofs.place.line_and_column.Given as goal

abbrev pub invariant-loop-byte : goal.invariant-loop-byte
invariant-loop-byte l = record {
  line : l.line ≡ suc (count_by is_line_feed (take l.byte-index l.passed));
  line_small : l.line ≤ suc l.byte-index;
  column : col_after l.column (drop l.byte-index l.passed) ≡ col_after 1 l.passed;
  column_small : l.column ≤ suc l.byte-index;
}
