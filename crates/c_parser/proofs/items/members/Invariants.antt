use Rattle.std.proofs.Common.{◌≡◌, ◌≤◌, ℕ, length}
use Rattle.std.specs.Prelude.{option_and_then}
use Rattle.c_grammar.specs.ReadItems.{members}
use Rattle.c_parser.proofs.ItemLoops.{prepended}
use Rattle.c_parser.proofs.items.members.Given as goal

abbrev pub invariant-loop-items : goal.invariant-loop-items
invariant-loop-items l = (fuel : ℕ) × (length l.rest ≤ fuel)
    × (members (length l.tokens) l.tokens ≡ option_and_then (prepended l.items) (members fuel l.rest))

abbrev pub decreases-loop-items : goal.decreases-loop-items
decreases-loop-items l = length l.rest
