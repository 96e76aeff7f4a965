-- How the steps on which a contradiction stands are collected: from the last literal found to the first one, each that is
-- marked, and what each stands on is marked.
use Rattle.std.specs.Prelude.{◌≡◌, ◌≢◌, ℕ, ◌+◌, ◌<◌, ◌≤◌, ◌⊎◌, Bool, List, length, take, Some, slice_get, slice_index_or, nat_eq, cond}
use Rattle.std.specs.List.{Contains}
use Rattle.zo_core.specs.Literals.{Literal, yes, opposite}
use Rattle.zo_core.specs.Order.{Ascends}
use Rattle.conflict_proof.specs.declared.names.ConstraintName.{ConstraintName}
use Rattle.transfer_rules.specs.Names.{NamedClause}
use Rattle.verdict_meaning.specs.Systems.{System, root, count, callee, callees}
use Rattle.verdict_meaning.specs.Derivations.{IsAxiomLine}
use Rattle.verdict_meaning.specs.Closures.{StandsFor}
use Rattle.unit_answers.specs.declared.clash.Contradiction.{Contradiction}
use Rattle.unit_answers.specs.Sets.{UnitSet}
use Rattle.unit_answers.specs.Reasons.{AreReasoned}
use Rattle.unit_answers.specs.Contradictions.{IsFirstContradiction}
use Rattle.unit_refutation.specs.declared.steps.Cause.{Cause}
use Rattle.unit_refutation.specs.declared.steps.Cause.TheVariants.{Clause, Site}
use Rattle.unit_refutation.specs.declared.steps.Step.{Step}
use Rattle.unit_refutation.specs.Numbers.{HasRoom, number_of}
use Rattle.unit_refutation.specs.Room.{found_in, HasRoomFor}
use Rattle.unit_refutation.specs.Trails.{StandsAt, IsOnce}
use Rattle.unit_refutation.specs.Lines.{AreRoomy}

-- What is asked

-- each clause of the tables is one of a constraint of its group that counts, in order where its unknowns are from 1 on, with
-- three literals at most
pub record AreTables (s : System) (U : ConstraintName → Bool) (rows : ℕ → List NamedClause) : Type 0 where
  pub clause : (group k : ℕ) (row : NamedClause) → group ≤ root s → slice_get (rows group) k ≡ Some row → IsAxiomLine s U group row.name row.lits
  pub order : (group k : ℕ) (row : NamedClause) → group ≤ root s → slice_get (rows group) k ≡ Some row
      → ((m : Literal) → Contains row.lits m → 0 < m.var) → Ascends 0 row.lits
  pub few : (group k : ℕ) (row : NamedClause) → group ≤ root s → slice_get (rows group) k ≡ Some row → length row.lits ≤ 3

-- the literals found are of their groups' unknowns
abbrev pub AreOfUnknowns : System → List UnitSet → Type 0
AreOfUnknowns s sets = (group : ℕ) (lit : Literal) → group ≤ root s → Contains (found_in sets group) lit → (0 < lit.var) × (lit.var ≤ count s group)

-- Marks

-- the literal of the group is marked
abbrev pub IsMarked : List (List ℕ) → ℕ → Literal → Type 0
IsMarked marks group lit = number_of marks group lit ≡ 1

-- marks were added
pub record AddsMarks (old new : List (List ℕ)) : Type 0 where
  pub kept : (group : ℕ) (lit : Literal) → IsMarked old group lit → IsMarked new group lit
  pub room : (group : ℕ) (lit : Literal) → HasRoom old group lit → HasRoom new group lit

-- Causes

-- the cause is one but for what it stands on
abbrev pub IsRightCause : System → (ConstraintName → Bool) → ℕ → Literal → Cause → Type 0
IsRightCause s U group lit (Clause name c) = IsAxiomLine s U group name c × Ascends 0 c × (length c ≤ 3) × Contains c lit
IsRightCause s U group lit (Site site lower m) = (site < length (callees s group)) × ((callee s group site).group ≡ lower) × StandsFor s group site lit m

-- the property holds of each literal that a cause stands on, with its group
abbrev pub EachPremise : (ℕ → Literal → Type 0) → ℕ → Literal → Cause → Type 0
EachPremise P group lit (Clause name c) = (m : Literal) → Contains c m → m ≢ lit → P group (opposite m)
EachPremise P group lit (Site site lower m) = P lower m

-- the literal of a group was found before place `place` of group `at`
abbrev pub IsFoundBefore : List UnitSet → ℕ → ℕ → ℕ → Literal → Type 0
IsFoundBefore sets at place group lit = ((group < at) × Contains (found_in sets group) lit) ⊎ ((group ≡ at) × Contains (take place (found_in sets at)) lit)

-- the literal of a group was found at place `place` of group `at` or after it
abbrev pub IsFoundFrom : List UnitSet → ℕ → ℕ → ℕ → Literal → Type 0
IsFoundFrom sets at place group lit = (at < group) ⊎ ((group ≡ at) × (k : ℕ) × (place ≤ k) × (slice_get (found_in sets at) k ≡ Some lit))

-- Steps

-- the literal of the group stands after this place
pub record StandsAfter (steps : List Step) (start group : ℕ) (lit : Literal) : Type 0 where
  pub place : ℕ
  pub later : start < place
  pub stands : StandsAt steps place group lit

-- it does, or is still to come: it is marked, and was found before place `place` of group `at`
abbrev pub IsDue : List UnitSet → List (List ℕ) → ℕ → ℕ → List Step → ℕ → ℕ → Literal → Type 0
IsDue sets marks at place steps start group lit = StandsAfter steps start group lit ⊎ (IsMarked marks group lit × IsFoundBefore sets at place group lit)

-- what was found in a group before the contradiction, which is at this place of group `last`
abbrev pub front : List UnitSet → ℕ → ℕ → ℕ → List Literal
front sets last clash group = cond (nat_eq group last) (take clash (found_in sets last)) (found_in sets group)

-- the step is right but for what it stands on, and is one of those found
pub record IsRightStep (s : System) (U : ConstraintName → Bool) (sets : List UnitSet) (last at place : ℕ) (step : Step) : Type 0 where
  pub group : step.group ≤ last
  pub within : step.lit.var ≤ count s step.group
  pub cause : IsRightCause s U step.group step.lit step.cause
  pub found : IsFoundFrom sets at place step.group step.lit

-- The steps were collected down to this place of group `at`, where the contradiction is that of the literal `lit` at place
-- `clash` of group `last`.
pub record AreCollected (s : System) (U : ConstraintName → Bool) (sets : List UnitSet) (last clash : ℕ) (lit : Literal) (marks : List (List ℕ)) (at place : ℕ) (steps : List Step) : Type 0 where
  pub room : HasRoomFor sets last marks
  pub roomy : AreRoomy marks steps
  pub each : (k : ℕ) (step : Step) → slice_get steps k ≡ Some step → IsRightStep s U sets last at place step
  pub due : (k : ℕ) (step : Step) → slice_get steps k ≡ Some step → EachPremise (IsDue sets marks at place steps k) step.group step.lit step.cause
  pub once : IsOnce steps
  pub none : length steps ≡ 0 → (at ≡ last) × (place ≡ clash + 1) × IsMarked marks last lit
  pub first : (step : Step) → slice_get steps 0 ≡ Some step → (step.group ≡ last) × (step.lit ≡ lit)
  pub others : (k : ℕ) (step : Step) → slice_get steps (k + 1) ≡ Some step → Contains (front sets last clash step.group) step.lit
  pub opposite_due : IsDue sets marks at place steps 0 last (opposite lit)

-- the literal that was found at a place of a group
abbrev pub lit_found : List UnitSet → ℕ → ℕ → Literal
lit_found sets group place = slice_index_or (found_in sets group) place (yes 0)

-- the cause of the literal that was found at a place of a group: it is right, and what it stands on was found before
abbrev pub IsCauseFound : System → (ConstraintName → Bool) → List UnitSet → ℕ → ℕ → Cause → Type 0
IsCauseFound s U sets group place why =
    IsRightCause s U group (lit_found sets group place) why × EachPremise (IsFoundBefore sets group place) group (lit_found sets group place) why

-- What is asked: sets with reasons that stand on earlier ones, by these tables, and the first contradiction in them
pub record IsAsked (s : System) (U : ConstraintName → Bool) (rows : ℕ → List NamedClause) (sets : List UnitSet) (c : Contradiction) : Type 0 where
  pub count : length sets ≡ root s + 1
  pub tables : AreTables s U rows
  pub reasoned : AreReasoned s rows sets
  pub unknowns : AreOfUnknowns s sets
  pub contradiction : IsFirstContradiction sets c
