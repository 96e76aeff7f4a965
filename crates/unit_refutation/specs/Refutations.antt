-- The refutation that propagation alone gives, under a budget.
use Rattle.std.specs.Prelude.{ℕ, ◌+◌, ◌*◌, ◌<◌, ◌≤◌, Bool, List, Option, Some, None}
use Rattle.conflict_proof.specs.declared.names.ConstraintName.{ConstraintName}
use Rattle.conflict_proof.specs.declared.derivation.Line.{Line}
use Rattle.verdict_meaning.specs.Systems.{System, root}
use Rattle.verdict_meaning.specs.Derivations.{IsValidIn, Refutes, NoClauseTwice, cost_of, HasAtMost, IsSpent}
use Rattle.verdict_meaning.specs.Closures.{IsUnitRefuted}
use Rattle.unit_refutation.specs.declared.refuting.Refutation.{Refutation}
use Rattle.unit_refutation.specs.declared.refuting.Refutation.TheVariants.{Whole, Over}

-- what a refutation by propagation costs at most with so many groups, of which none, nor the root, has more unknowns than these
abbrev pub most_unit_cost : ℕ → ℕ → ℕ
most_unit_cost groups most = 16 * ((groups + 1) * (most + 2))

-- the lines are valid, no clause stands twice in a group, they refute, and they cost no more than the budget and the bound
pub record IsUnitRefutation (s : System) (U : ConstraintName → Bool) (budget : ℕ) (lines : List Line) : Type 0 where
  pub valid : IsValidIn s U lines
  pub once : NoClauseTwice lines
  pub refutes : Refutes s lines
  pub within : cost_of lines ≤ budget
  pub cost : (most : ℕ) → HasAtMost s most → cost_of lines ≤ most_unit_cost (root s) most

-- the lines show that the budget is spent, and it is below the bound
pub record IsUnitSpent (s : System) (U : ConstraintName → Bool) (budget : ℕ) (lines : List Line) : Type 0 where
  pub spent : IsSpent s U lines budget
  pub small : (most : ℕ) → HasAtMost s most → budget < most_unit_cost (root s) most

-- what an answer says
abbrev pub IsRefutation : System → (ConstraintName → Bool) → ℕ → Refutation → Type 0
IsRefutation s U budget (Whole d) = IsUnitRefutation s U budget d.lines
IsRefutation s U budget (Over d) = IsUnitSpent s U budget d.lines

-- what the whole answer says: there is none exactly where propagation reaches no unknown in both signs
abbrev pub IsAnswer : System → (ConstraintName → Bool) → ℕ → Option Refutation → Type 0
IsAnswer s U budget None = IsUnitRefuted s U → ⊥
IsAnswer s U budget (Some made) = IsUnitRefuted s U × IsRefutation s U budget made
