use Rattle.std.proofs.Common.{sym, ◌∙◌}
use Rattle.c_parser.proofs.ItemLoops.{linkage_more, linkage_shorter}
use Rattle.c_parser.proofs.file.next_item.Goals as goal

pub loop-next-preserved : goal.loop-next-preserved
loop-next-preserved c = sym (linkage_more c.loop-next.rest.now _ (sym c.in-Some.ensures)) ∙ c.loop-next.invariant

pub loop-next-smaller : goal.loop-next-smaller
loop-next-smaller c = linkage_shorter c.loop-next.rest.now _ (sym c.in-Some.ensures)
