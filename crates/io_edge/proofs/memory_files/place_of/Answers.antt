use Rattle.std.proofs.Common.{sym, ◌∙◌, arith}
use Rattle.io_edge.proofs.Found.{held_at_first, held_nowhere}
use Rattle.io_edge.proofs.memory_files.place_of.Goals as goal

pub returns-then-is_named : goal.returns-then-is_named
returns-then-is_named c =
    held_at_first c.args.files.now c.args.name.now c.loop-place.place c.index-files-place.result (omega arith)
    c.index-files-place.is c.loop-place.invariant (sym c.is_named.ensures ∙ c.if-is_named.true)

pub returns : goal.returns
returns c = held_nowhere c.args.files.now c.args.name.now (λ k d below. c.loop-place.invariant k d (omega arith))
