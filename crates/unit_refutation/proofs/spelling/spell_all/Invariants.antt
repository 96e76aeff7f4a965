use Rattle.std.proofs.Common.{ℕ, Bool}
use Rattle.zo_core.specs.Literals.{Literal}
use Rattle.conflict_proof.specs.declared.names.ConstraintName.{ConstraintName}
use Rattle.verdict_meaning.specs.Systems.{System}
use Rattle.unit_refutation.specs.Numbers.{HasRoom}
use Rattle.unit_refutation.specs.Trails.{IsTrail}
use Rattle.unit_refutation.specs.Lines.{IsWithin, AreRoomy}
use Rattle.unit_refutation.proofs.StepLemmas.{IsStage}
use Rattle.unit_refutation.proofs.spelling.spell_all.Given as goal

abbrev pub invariant-loop-step : goal.invariant-loop-step
invariant-loop-step l = record {
  within : IsWithin l.writer;
  room : AreRoomy l.numbers l.steps;
  kept : (group : ℕ) (lit : Literal) → HasRoom l.fn.numbers group lit → HasRoom l.numbers group lit;
  stage : (s : System) (U : ConstraintName → Bool) → IsTrail s U l.steps → IsStage s U l.steps l.step-index l.fn.writer l.writer l.numbers;
}
