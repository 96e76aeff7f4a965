use Rattle.std.proofs.Common.{ℕ, Bool, List, ◌≤◌, length}
use Rattle.zo_core.specs.Order.{Ascends}
use Rattle.conflict_proof.specs.declared.names.ConstraintName.{ConstraintName}
use Rattle.verdict_meaning.specs.Systems.{System}
use Rattle.unit_refutation.specs.declared.steps.Step.{Step}
use Rattle.unit_refutation.specs.Lines.{IsWithin, IsReached}
use Rattle.unit_refutation.proofs.StepLemmas.{IsWriting}
use Rattle.unit_refutation.proofs.spelling.spell_forced.Given as goal

abbrev pub invariant-loop-m : goal.invariant-loop-m
invariant-loop-m l = record {
  within : IsWithin l.writer;
  order : Ascends 0 l.rest.items;
  few : length l.rest.items ≤ 3;
  writing : (s : System) (U : ConstraintName → Bool) (trail : List Step) (place : ℕ) → IsReached s U trail place l.numbers l.step l.fn.writer
      → IsWriting s U trail place l.step.group l.step.lit l.clause l.m-index l.fn.writer l.writer l.number l.rest.items;
}
