use Rattle.unit_refutation.specs.Collecting.{AreCollected, lit_found}
use Rattle.unit_refutation.proofs.collecting.collect.Given as goal

abbrev pub invariant-loop-group : goal.invariant-loop-group
invariant-loop-group g l =
    AreCollected (g.T.Tables.system l.tables) (g.T.Tables.scope l.tables) l.closures l.clash.group l.clash.place (lit_found l.closures l.clash.group l.clash.place) l.marks l.group 0 l.steps.items
