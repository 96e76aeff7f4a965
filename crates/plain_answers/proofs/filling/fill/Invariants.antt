use Rattle.std.proofs.Common.{vec_len}
use Rattle.plain_answers.specs.Stages.{IsStage}
use Rattle.plain_answers.proofs.filling.fill.Given as goal

abbrev pub invariant-loop-wants : goal.invariant-loop-wants
invariant-loop-wants g l = IsStage (g.G.Shapes.system l.groups) (g.G.GroupClauses.counting l.groups) l.top l.wanted.items l.table.items

abbrev pub decreases-loop-wants : goal.decreases-loop-wants
decreases-loop-wants g l = vec_len l.wanted
