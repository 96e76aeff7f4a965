use Rattle.call_search.proofs.Descent.{sized_in}
use Rattle.call_search.proofs.descending.is_kept.Goals as goal

pub is_there-requires : goal.is_there-requires
is_there-requires g c = sized_in (g.G.Shapes.system c.args.groups.now) c.args.kept.now.items c.callee-callee.result.group c.listed.result.now c.requires.sized c.listed.ensures
