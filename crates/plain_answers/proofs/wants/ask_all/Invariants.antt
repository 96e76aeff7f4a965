use Rattle.plain_answers.specs.Wants.{AreAsked}
use Rattle.plain_answers.proofs.wants.ask_all.Given as goal

abbrev pub invariant-loop-site : goal.invariant-loop-site
invariant-loop-site g l = AreAsked (g.G.Shapes.system l.groups) l.group l.bits l.fn.wanted.items l.wanted.items l.site
