use Rattle.std.proofs.Common.{◌≡◌, ◌≤◌, ℕ, length}
use Rattle.std.specs.Prelude.{option_and_then}
use Rattle.c_grammar.specs.ReadItems.{member_closed, declarators, read_member}
use Rattle.c_parser.proofs.ItemLoops.{prepended}
use Rattle.c_parser.proofs.items.member.Given as goal

abbrev pub invariant-loop-items : goal.invariant-loop-items
invariant-loop-items l = (fuel : ℕ) × (length l.rest ≤ fuel)
    × (read_member l.tokens ≡ option_and_then member_closed (option_and_then (prepended l.items) (declarators fuel l.base.tree l.rest)))

abbrev pub decreases-loop-items : goal.decreases-loop-items
decreases-loop-items l = length l.rest
