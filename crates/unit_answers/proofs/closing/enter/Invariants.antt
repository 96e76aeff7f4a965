use Rattle.std.proofs.Common.{◌≡◌, List}
use Rattle.transfer_rules.specs.Names.{NamedClause}
use Rattle.verdict_meaning.specs.Systems.{System}
use Rattle.unit_answers.specs.Layouts.{IsLayoutOf}
use Rattle.unit_answers.specs.Settled.{IsEntered}
use Rattle.unit_answers.proofs.closing.enter.Given as goal

abbrev pub invariant-loop-site : goal.invariant-loop-site
invariant-loop-site l = record {
  unknowns : l.trail.unknowns ≡ l.initial.trail.unknowns;
  entered : (s : System) (rows : List NamedClause) → IsLayoutOf s l.layout → IsEntered s l.group rows l.lower l.site l.trail;
}
