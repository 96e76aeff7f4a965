use Rattle.std.proofs.Common.{◌≡◌, take}
use Rattle.call_summary.specs.Joins.{IsIndexOf}
use Rattle.call_summary.proofs.joining.indexed.Given as goal

abbrev pub invariant-loop-line : goal.invariant-loop-line
invariant-loop-line l = record {
  lines : l.lines.items ≡ take l.line-index l.known;
  index : IsIndexOf (take l.line-index l.known) l.index;
}
