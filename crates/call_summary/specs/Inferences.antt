-- What an inference answers.
use Rattle.std.specs.Prelude.{ℕ, ◌<◌, ◌≤◌, Bool, List}
use Rattle.conflict_proof.specs.declared.names.ConstraintName.{ConstraintName}
use Rattle.conflict_proof.specs.declared.derivation.Line.{Line}
use Rattle.own_cert.specs.declared.certificate.Certificate.{Certificate}
use Rattle.verdict_meaning.specs.Systems.{System, root}
use Rattle.verdict_meaning.specs.Certificates.{IsGoodIn, HasNoNeedless}
use Rattle.verdict_meaning.specs.Derivations.{IsValidIn, Refutes, cost_of, HasAtMost, most_cost, IsSpent}
use Rattle.verdict_meaning.specs.UsedNames.{AreUsedNames}
use Rattle.verdict_meaning.specs.Closures.{IsUnitRefuted}
use Rattle.verdict_meaning.specs.Plain.{IsPlainSat}
use Rattle.unit_refutation.specs.Refutations.{most_unit_cost}
use Rattle.call_summary.specs.declared.inferred.Inferred.{Inferred}
use Rattle.call_summary.specs.declared.inferred.Inferred.TheVariants.{Accepted, Refuted, Undecided}

-- a good certificate, which has besides one instance for each group only those that a site names
pub record IsAccepted (s : System) (U : ConstraintName → Bool) (c : Certificate) : Type 0 where
  pub good : IsGoodIn s U c
  pub needed : HasNoNeedless s c

-- lines that refute and cost no more than these words, and the names of the constraints that they use
pub record IsRefuted (s : System) (U : ConstraintName → Bool) (words : ℕ) (lines : List Line) (names : List ConstraintName) : Type 0 where
  pub valid : IsValidIn s U lines
  pub refutes : Refutes s lines
  pub used : AreUsedNames lines names
  pub cost : cost_of lines ≤ words

-- The budget may be spent: it is below what all different clauses of all groups cost, it is below what a refutation by
-- propagation costs at most, where there is one, and propagation gives no certificate.
pub record MayBeSpent (s : System) (U : ConstraintName → Bool) (budget : ℕ) : Type 0 where
  pub bound : (most : ℕ) → HasAtMost s most → budget < most_cost (root s) most
  pub units : IsUnitRefuted s U → (most : ℕ) → HasAtMost s most → budget < most_unit_cost (root s) most
  pub plain : IsPlainSat s U → ⊥

-- what an answer says, where a derivation may cost these words in all, of which those of the budget are spent on new lines
abbrev pub AnswerIs : System → (ConstraintName → Bool) → ℕ → ℕ → Inferred → Type 0
AnswerIs s U words budget (Accepted c) = IsAccepted s U c
AnswerIs s U words budget (Refuted d names) = IsRefuted s U words d.lines names
AnswerIs s U words budget (Undecided d) = IsSpent s U d.lines words × MayBeSpent s U budget

-- what an answer says under a budget of words
abbrev pub InferredIs : System → (ConstraintName → Bool) → ℕ → Inferred → Type 0
InferredIs s U budget i = AnswerIs s U budget budget i
