use Rattle.std.proofs.Common.{◌≡◌, ◌++◌, length, map, take}
use Rattle.call_summary.specs.Knowing.{shifted}
use Rattle.call_summary.proofs.knowing.behind.Given as goal

abbrev pub invariant-loop-line : goal.invariant-loop-line
invariant-loop-line l = l.items.items ≡ l.known ++ map (shifted (length l.known)) (take l.line-index l.more)
