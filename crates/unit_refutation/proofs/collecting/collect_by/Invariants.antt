use Rattle.unit_refutation.specs.Collecting.{AreCollected, lit_found}
use Rattle.unit_refutation.proofs.collecting.collect_by.Given as goal

abbrev pub invariant-loop-place : goal.invariant-loop-place
invariant-loop-place g l =
    AreCollected (g.T.Tables.system l.tables) (g.T.Tables.scope l.tables) l.closures l.fn.clash.group l.fn.clash.place (lit_found l.closures l.fn.clash.group l.fn.clash.place) l.marks l.group l.place l.steps.items
