use Rattle.unit_answers.specs.Settled.{Takes}
use Rattle.unit_answers.proofs.carry.carry.Given as goal

abbrev pub invariant-lits : goal.invariant-lits
invariant-lits l = Takes l.fields l.site l.call l.lower l.lit-index l.initial.trail l.trail
