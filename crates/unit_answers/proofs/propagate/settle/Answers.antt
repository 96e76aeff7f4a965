use Rattle.std.proofs.Common.{Bool, false, length, subst}
use Rattle.unit_answers.specs.Propagation.{IsSwept}
use Rattle.unit_answers.proofs.Forcing.{forces_then, swept_closed}
use Rattle.unit_answers.proofs.propagate.settle.Goals as goal

pub turns-preserved : goal.turns-preserved
turns-preserved c =
    let rows = c.args.table.now in
    forces_then rows c.follow.new.trail c.sweep.new.trail c.follow-in-turns.new.trail
    (forces_then rows c.follow.new.trail c.turns.trail c.sweep.new.trail c.turns.invariant c.in_ok-sweep.ensures.forces) c.in_ok-follow-2.ensures

pub returns-clause-forces : goal.returns-clause-forces
returns-clause-forces c =
    let rows = c.args.table.now in
    forces_then rows c.args.trail.now c.follow.new.trail c.sweep.new.trail c.in_ok-follow.ensures
    (forces_then rows c.follow.new.trail c.turns.trail c.sweep.new.trail c.turns.invariant c.in_ok-sweep.ensures.forces)

pub returns-clause-closed : goal.returns-clause-closed
returns-clause-closed c =
    let rows = c.args.table.now in
    let swept : IsSwept rows (length rows) c.turns.trail c.sweep.new.trail false =
    subst (λ (b : Bool). IsSwept rows (length rows) c.turns.trail c.sweep.new.trail b) c.if-branch.false c.in_ok-sweep.ensures in
    swept_closed rows c.turns.trail c.sweep.new.trail swept
