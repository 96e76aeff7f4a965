use Rattle.std.proofs.Common.{◌≡◌, ◌≤◌, ℕ, length, map}
use Rattle.std.specs.Prelude.{option_map}
use Rattle.c_tree.specs.View.{proc_view}
use Rattle.c_grammar.specs.ReadItems.{read_file, items}
use Rattle.c_parser.specs.ItemViews.{tree_of}
use Rattle.c_parser.proofs.ItemLoops.{placed_in}
use Rattle.c_parser.proofs.file.file.Given as goal

abbrev pub invariant-file_items : goal.invariant-file_items
invariant-file_items l = (fuel : ℕ) × (length l.rest ≤ fuel)
    × (option_map tree_of (read_file l.tokens) ≡ placed_in l.structs (map proc_view l.procs) (items fuel l.rest))

abbrev pub decreases-file_items : goal.decreases-file_items
decreases-file_items l = length l.rest
