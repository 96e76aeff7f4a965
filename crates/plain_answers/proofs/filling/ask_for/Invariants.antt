use Rattle.std.proofs.Common.{take}
use Rattle.plain_answers.specs.Stages.{AreAllAsked}
use Rattle.plain_answers.proofs.filling.ask_for.Given as goal

abbrev pub invariant-loop-entry : goal.invariant-loop-entry
invariant-loop-entry g l = AreAllAsked (g.G.Shapes.system l.groups) l.group (take l.entry-index l.entries) l.fn.wanted.items l.wanted.items
