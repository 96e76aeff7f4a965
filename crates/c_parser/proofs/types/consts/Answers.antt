use Rattle.std.proofs.Common.{sym, ◌∙◌}
use Rattle.c_parser.proofs.Lookups.{word_shorter, consts_more, consts_end}
use Rattle.c_parser.proofs.types.consts.Goals as goal

pub loop-next-preserved : goal.loop-next-preserved
loop-next-preserved c = let m = consts_more c.loop-next.at c.loop-next.rest.now _ (sym c.in-Some.ensures) in rw c.join-at.ensures (sym m ∙ c.loop-next.invariant)

pub loop-next-smaller : goal.loop-next-smaller
loop-next-smaller c = word_shorter _ _ _ (sym c.in-Some.ensures)

pub returns : goal.returns
returns c = sym (consts_end _ _ (sym (rw c.in_default.is at c.after_word.ensures))) ∙ c.loop-next.invariant
