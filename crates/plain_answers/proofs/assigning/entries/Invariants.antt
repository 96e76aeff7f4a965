use Rattle.std.proofs.Common.{take}
use Rattle.plain_answers.specs.Stages.{AreEntries}
use Rattle.plain_answers.proofs.assigning.entries.Given as goal

abbrev pub invariant-loop-want : goal.invariant-loop-want
invariant-loop-want g l = AreEntries (g.G.Shapes.system l.groups) (g.G.GroupClauses.counting l.groups) l.phi l.group (take l.want-index l.wants) l.out.items
