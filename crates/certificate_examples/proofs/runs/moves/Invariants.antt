use Rattle.cert_checker.specs.Owned.{IsSoundBy}
use Rattle.certificate_examples.proofs.runs.moves.Given as goal

abbrev pub invariant-loop-turn : goal.invariant-loop-turn
invariant-loop-turn l = IsSoundBy l.program l.certificate l.state
