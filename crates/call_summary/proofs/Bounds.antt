-- Budgets that may be spent.
use Rattle.std.proofs.Common.{◌≡◌, ℕ, ◌<◌, ◌≤◌, inl, inr, Bool, List, Option, Some, ap, ◌∙◌, subst, arith}
use Rattle.std.proofs.lemmas.Bool.{cases_lt}
use Rattle.conflict_proof.specs.declared.names.ConstraintName.{ConstraintName}
use Rattle.conflict_proof.specs.declared.derivation.Line.{Line}
use Rattle.verdict_meaning.specs.Systems.{System, root}
use Rattle.verdict_meaning.specs.Derivations.{HasAtMost, most_cost, IsSpent}
use Rattle.verdict_meaning.specs.Closures.{IsUnitRefuted}
use Rattle.verdict_meaning.specs.Plain.{IsPlainSat}
use Rattle.verdict_meaning.specs.Laws.{BudgetSuffices}
use Rattle.conflict_proof.specs.declared.derivation.Derivation.{Derivation}
use Rattle.unit_refutation.specs.declared.refuting.Refutation.{Refutation}
use Rattle.unit_refutation.specs.declared.refuting.Refutation.TheVariants.{Whole, Over}
use Rattle.unit_refutation.specs.Refutations.{IsAnswer, IsUnitRefutation, IsUnitSpent, most_unit_cost}
use Rattle.call_summary.specs.Inferences.{MayBeSpent}

-- a budget that is spent is below the bound on all derivations
spent_below : BudgetSuffices → (s : System) (U : ConstraintName → Bool) (lines : List Line) (words budget : ℕ) → budget ≤ words → IsSpent s U lines words
    → (most : ℕ) → HasAtMost s most → budget < most_cost (root s) most
spent_below law s U lines words budget le spent most at = elim (cases_lt budget (most_cost (root s) most)) [
  | inl lt ↦ lt
  | inr over ↦ absurd (law s U lines words most at (omega arith) spent)
]

-- What propagation answers, by cases

pub whole_answer : (s : System) (U : ConstraintName → Bool) (budget : ℕ) (o : Option Refutation) (made : Refutation) (d : Derivation) → IsAnswer s U budget o → o ≡ Some made → made ≡ Whole d
    → IsUnitRefuted s U × IsUnitRefutation s U budget d.lines
whole_answer s U budget o made d is some whole = subst (IsAnswer s U budget) (some ∙ ap (λ (m : Refutation). Some m) whole) is

pub over_answer : (s : System) (U : ConstraintName → Bool) (budget : ℕ) (o : Option Refutation) (made : Refutation) (d : Derivation) → IsAnswer s U budget o → o ≡ Some made → made ≡ Over d
    → IsUnitRefuted s U × IsUnitSpent s U budget d.lines
over_answer s U budget o made d is some over = subst (IsAnswer s U budget) (some ∙ ap (λ (m : Refutation). Some m) over) is

-- where propagation refutes
pub spent_by_units : BudgetSuffices → ((s : System) → (U : ConstraintName → Bool) → IsUnitRefuted s U → IsPlainSat s U → ⊥)
    → (s : System) (U : ConstraintName → Bool) (lines : List Line) (budget : ℕ) → IsUnitRefuted s U → IsUnitSpent s U budget lines → IsSpent s U lines budget × MayBeSpent s U budget
spent_by_units law apart s U lines budget is unit = (
  unit.spent,
  record {
    bound = spent_below law s U lines budget budget (omega arith) unit.spent;
    units = λ _ most at. unit.small most at;
    plain = apart s U is;
  },
)

-- where propagation gives no certificate, and where it refutes the budget is too small for that
pub spent_beyond : BudgetSuffices → (s : System) (U : ConstraintName → Bool) (lines : List Line) (words budget : ℕ) → budget ≤ words → (IsUnitRefuted s U → (most : ℕ) → HasAtMost s most → budget < most_unit_cost (root s) most)
    → (IsPlainSat s U → ⊥) → IsSpent s U lines words → IsSpent s U lines words × MayBeSpent s U budget
spent_beyond law s U lines words budget le units plain spent = (
  spent,
  record { bound = spent_below law s U lines words budget le spent; units = units; plain = plain },
)

-- where propagation neither refutes nor gives a certificate
pub spent_by_search : BudgetSuffices → (s : System) (U : ConstraintName → Bool) (lines : List Line) (words budget : ℕ) → budget ≤ words → (IsUnitRefuted s U → ⊥) → (IsPlainSat s U → ⊥)
    → IsSpent s U lines words → IsSpent s U lines words × MayBeSpent s U budget
spent_by_search law s U lines words budget le units plain spent = spent_beyond law s U lines words budget le (λ is most at. absurd (units is)) plain spent
