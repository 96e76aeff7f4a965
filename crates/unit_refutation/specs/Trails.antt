-- Trails: the literals on which a contradiction stands, each after those on which it stands itself.
use Rattle.std.specs.Prelude.{◌≡◌, ◌≢◌, ℕ, ◌+◌, ◌<◌, ◌≤◌, Bool, List, [], ◌∷◌, ◌++◌, Some, length, slice_get}
use Rattle.std.specs.List.{Contains}
use Rattle.zo_core.specs.Literals.{Literal, opposite}
use Rattle.zo_core.specs.Order.{Ascends}
use Rattle.conflict_proof.specs.declared.names.ConstraintName.{ConstraintName}
use Rattle.verdict_meaning.specs.Systems.{System, root, count, callee, callees}
use Rattle.verdict_meaning.specs.Derivations.{IsAxiomLine}
use Rattle.verdict_meaning.specs.Closures.{StandsFor}
use Rattle.unit_refutation.specs.declared.steps.Cause.{Cause}
use Rattle.unit_refutation.specs.declared.steps.Cause.TheVariants.{Clause, Site}
use Rattle.unit_refutation.specs.declared.steps.Step.{Step}

-- the literal of the group stands at this place
pub record StandsAt (trail : List Step) (place group : ℕ) (lit : Literal) : Type 0 where
  pub step : Step
  pub there : slice_get trail place ≡ Some step
  pub is_group : step.group ≡ group
  pub is_lit : step.lit ≡ lit

-- it stands at some place before this one
pub record StandsBefore (trail : List Step) (end group : ℕ) (lit : Literal) : Type 0 where
  pub place : ℕ
  pub earlier : place < end
  pub stands : StandsAt trail place group lit

-- the literal is forced at a place: a clause of a constraint of the group that counts holds it, and the opposites of the
-- clause's other literals stand before
pub record IsForced (s : System) (U : ConstraintName → Bool) (trail : List Step) (place group : ℕ) (name : ConstraintName) (c : List Literal) (lit : Literal) : Type 0 where
  pub clause : IsAxiomLine s U group name c
  pub order : Ascends 0 c
  pub few : length c ≤ 3
  pub holds : Contains c lit
  pub denied : (m : Literal) → Contains c m → m ≢ lit → StandsBefore trail place group (opposite m)

-- the literal is carried at a place: at a site of the group it stands for a literal of the called group, which stands before
pub record IsCarried (s : System) (trail : List Step) (place group site lower : ℕ) (m lit : Literal) : Type 0 where
  pub site_there : site < length (callees s group)
  pub called : (callee s group site).group ≡ lower
  pub stands : StandsFor s group site lit m
  pub before : StandsBefore trail place lower m

-- the cause is one
abbrev pub IsCause : System → (ConstraintName → Bool) → List Step → ℕ → ℕ → Literal → Cause → Type 0
IsCause s U trail place group lit (Clause name c) = IsForced s U trail place group name c lit
IsCause s U trail place group lit (Site site lower m) = IsCarried s trail place group site lower m lit

-- the literal at a place is of a group that exists or of the root, and of an unknown of it, and its cause is one
pub record IsStep (s : System) (U : ConstraintName → Bool) (trail : List Step) (place : ℕ) (step : Step) : Type 0 where
  pub group : step.group ≤ root s
  pub some : 0 < step.lit.var
  pub within : step.lit.var ≤ count s step.group
  pub cause : IsCause s U trail place step.group step.lit step.cause

-- no literal stands twice in a group
abbrev pub IsOnce : List Step → Type 0
IsOnce trail =
    (j k : ℕ) (e f : Step) → slice_get trail j ≡ Some e → slice_get trail k ≡ Some f → e.group ≡ f.group → e.lit ≡ f.lit → j ≡ k

-- before the last place no unknown stands in a group with both signs
abbrev pub IsConsistent : List Step → Type 0
IsConsistent trail =
    (j k : ℕ) (e f : Step) → j + 1 < length trail → k + 1 < length trail → slice_get trail j ≡ Some e → slice_get trail k ≡ Some f
    → e.group ≡ f.group → e.lit ≡ opposite f.lit → ⊥

-- the opposite of the last literal stands before it in its group
pub record EndsInClash (trail : List Step) : Type 0 where
  pub before : List Step
  pub last : Step
  pub is : trail ≡ before ++ last ∷ []
  pub clash : StandsBefore trail (length before) last.group (opposite last.lit)

-- each literal has a cause, none stands twice, and the last one is the first whose opposite stands before it
pub record IsTrail (s : System) (U : ConstraintName → Bool) (trail : List Step) : Type 0 where
  pub each : (place : ℕ) (step : Step) → slice_get trail place ≡ Some step → IsStep s U trail place step
  pub once : IsOnce trail
  pub consistent : IsConsistent trail
  pub clash : EndsInClash trail

-- the trail ends in the contradiction of this literal of a group
pub record EndsIn (s : System) (U : ConstraintName → Bool) (group : ℕ) (lit : Literal) (trail : List Step) : Type 0 where
  pub is : IsTrail s U trail
  pub is_group : is.clash.last.group ≡ group
  pub is_lit : is.clash.last.lit ≡ lit
