use Rattle.std.proofs.Common.{sym, subst}
use Rattle.unit_answers.specs.Trails.{Trail}
use Rattle.unit_answers.specs.Propagation.{Forces}
use Rattle.unit_answers.proofs.Forcing.{forces_then}
use Rattle.unit_answers.proofs.propagate.visit_all.Goals as goal
use Rattle.unit_answers.proofs.propagate.visit_all.Goals.{then-number-len+in_ok-visit, else-number-len}

pub numbers-preserved : goal.numbers-preserved
numbers-preserved c =
    elim c.if-number-len.branch [
      | then-number-len+in_ok-visit w ↦
          subst (λ (t : Trail). Forces c.args.table.now c.args.trail.now t) (sym w.trail-is)
          (forces_then c.args.table.now c.args.trail.now c.numbers.trail w.visit.new.trail c.numbers.invariant w.in_ok-visit.ensures.forces)
      | else-number-len w ↦ subst (λ (t : Trail). Forces c.args.table.now c.args.trail.now t) (sym w.trail-is) c.numbers.invariant
    ]
