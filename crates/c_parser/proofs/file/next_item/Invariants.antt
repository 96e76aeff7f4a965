use Rattle.std.proofs.Common.{◌≡◌, length}
use Rattle.c_parser.specs.ItemViews.{read_item}
use Rattle.c_parser.proofs.file.next_item.Given as goal

abbrev pub invariant-loop-next : goal.invariant-loop-next
invariant-loop-next l = read_item l.rest ≡ read_item l.tokens

abbrev pub decreases-loop-next : goal.decreases-loop-next
decreases-loop-next l = length l.rest
