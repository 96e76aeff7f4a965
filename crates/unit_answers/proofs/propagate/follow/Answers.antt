use Rattle.unit_answers.proofs.Forcing.{forces_then}
use Rattle.unit_answers.proofs.propagate.follow.Goals as goal

pub places-preserved : goal.places-preserved
places-preserved c = forces_then c.args.table.now c.args.trail.now c.places.trail c.visit_all.new.trail c.places.invariant c.in_ok-visit_all.ensures
