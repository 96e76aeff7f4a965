use Rattle.std.proofs.Common.{◌≡◌, take}
use Rattle.call_summary.proofs.knowing.copied.Given as goal

abbrev pub invariant-loop-line : goal.invariant-loop-line
invariant-loop-line l = l.items.items ≡ take l.line-index l.lines
