use Rattle.std.proofs.Common.{◌≡◌, ◌+◌, ◌*◌, ◌++◌, map}
use Rattle.std.specs.List.{range_with_len}
use Rattle.call_search.specs.Made.{row_at}
use Rattle.call_search.proofs.certify.push_rows.Given as goal

abbrev pub invariant-loop-place : goal.invariant-loop-place
invariant-loop-place l = record {
  rows : l.out.items ≡ l.fn.out.items ++ map (row_at l.bits l.from l.width l.proc) (range_with_len 0 l.place);
  first : l.first ≡ l.from + l.place * l.width;
}
