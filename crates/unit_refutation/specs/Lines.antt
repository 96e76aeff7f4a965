-- How the lines of a trail are written under a budget.
use Rattle.std.specs.Prelude.{◌≡◌, ◌≢◌, ℕ, ◌+◌, ◌*◌, ◌<◌, ◌≤◌, ◌⊎◌, Bool, List, [], ◌∷◌, ◌++◌, Option, Some, length, slice_get, MatchOption, MatchBool, cond, take, drop}
use Rattle.std.specs.List.{Contains}
use Rattle.zo_core.specs.Literals.{Literal, opposite, literal_eq}
use Rattle.zo_core.specs.Order.{Ascends}
use Rattle.conflict_proof.specs.declared.names.ConstraintName.{ConstraintName}
use Rattle.conflict_proof.specs.declared.derivation.How.{How}
use Rattle.conflict_proof.specs.declared.derivation.Line.{Line}
use Rattle.verdict_meaning.specs.Systems.{System, root}
use Rattle.verdict_meaning.specs.Derivations.{line_at, IsValidIn, NoClauseTwice, Refutes, cost_of}
use Rattle.unit_refutation.specs.declared.steps.Cause.{Cause}
use Rattle.unit_refutation.specs.declared.steps.Cause.TheVariants.{Clause, Site}
use Rattle.unit_refutation.specs.declared.steps.Step.{Step}
use Rattle.unit_refutation.specs.declared.writing.Writer.{Writer}
use Rattle.unit_refutation.specs.Numbers.{HasRoom, number_of}
use Rattle.unit_refutation.specs.Trails.{StandsBefore, IsTrail, EndsIn}

-- a line
abbrev pub line_of : ℕ → How → List Literal → Line
line_of group how lits = record { group = group; how = how; lits = lits }

-- line number n, from 1, is this clause of the group
pub record IsLineOf (lines : List Line) (n group : ℕ) (lits : List Literal) : Type 0 where
  pub line : Line
  pub there : line_at lines n ≡ Some line
  pub is_group : line.group ≡ group
  pub is_lits : line.lits ≡ lits

-- the words are the lines' cost, which is within the budget
pub record IsWithin (w : Writer) : Type 0 where
  pub cost : w.words ≡ cost_of w.lines.items
  pub within : w.words ≤ w.budget

-- a line was put; its number, or None where the cost went over the budget with it
pub record Puts (group : ℕ) (how : How) (lits : List Literal) (old new : Writer) (n : Option ℕ) : Type 0 where
  pub lines : new.lines.items ≡ old.lines.items ++ line_of group how lits ∷ []
  pub words : new.words ≡ old.words + (length lits + 1)
  pub budget : new.budget ≡ old.budget
  pub answer : MatchOption n (new.budget < new.words) (λ k. (new.words ≤ new.budget) × (k ≡ length new.lines.items))

-- lines were added, for so many words at most
pub record Grows (most : ℕ) (old new : Writer) : Type 0 where
  pub more : List Line
  pub lines : new.lines.items ≡ old.lines.items ++ more
  pub words : new.words ≤ old.words + most
  pub budget : new.budget ≡ old.budget

-- the literals of these that are this one
abbrev pub only : Literal → List Literal → List Literal
only l [] = []
only l (m ∷ c) = cond (literal_eq m l) (m ∷ only l c) (only l c)

-- the clause without the first n of its literals, but with this one
abbrev pub rest_of : Literal → ℕ → List Literal → List Literal
rest_of l n c = only l (take n c) ++ drop n c

-- the clause of the group is one for the literal at this place: it holds that literal, and the opposites of its others
-- stand before
pub record IsClauseFor (trail : List Step) (place group : ℕ) (c : List Literal) : Type 0 where
  pub step : Step
  pub there : slice_get trail place ≡ Some step
  pub is_group : step.group ≡ group
  pub holds : Contains c step.lit
  pub others : (m : Literal) → Contains c m → m ≢ step.lit → StandsBefore trail place group (opposite m)

-- it is one for a literal before this place
pub record IsClauseBelow (trail : List Step) (end group : ℕ) (c : List Literal) : Type 0 where
  pub place : ℕ
  pub earlier : place < end
  pub is : IsClauseFor trail place group c

-- the lines are valid, no clause stands twice in a group, and each is for a literal before this place
pub record IsSpelled (s : System) (U : ConstraintName → Bool) (trail : List Step) (end : ℕ) (lines : List Line) : Type 0 where
  pub valid : IsValidIn s U lines
  pub once : NoClauseTwice lines
  pub each : (k : ℕ) (line : Line) → slice_get lines k ≡ Some line → IsClauseBelow trail end line.group line.lits

-- the same while the lines for the literal at this place are written, each of which has so many literals at least
pub record IsSpelling (s : System) (U : ConstraintName → Bool) (trail : List Step) (place least : ℕ) (lines : List Line) : Type 0 where
  pub valid : IsValidIn s U lines
  pub once : NoClauseTwice lines
  pub each : (k : ℕ) (line : Line) → slice_get lines k ≡ Some line
      → IsClauseBelow trail place line.group line.lits ⊎ (IsClauseFor trail place line.group line.lits × (least ≤ length line.lits))

-- the last line took the cost over the budget
pub record IsOver (s : System) (U : ConstraintName → Bool) (w : Writer) : Type 0 where
  pub valid : IsValidIn s U w.lines.items
  pub once : NoClauseTwice w.lines.items
  pub cost : w.words ≡ cost_of w.lines.items
  pub over : w.budget < w.words
  pub before : List Line
  pub last : Line
  pub is : w.lines.items ≡ before ++ last ∷ []
  pub within : cost_of before ≤ w.budget

-- the number of the literal of the group is that of its line
abbrev pub IsNumbered : List (List ℕ) → List Line → ℕ → Literal → Type 0
IsNumbered numbers lines group lit = IsLineOf lines (number_of numbers group lit) group (lit ∷ [])

-- the opposites of the other literals of a clause have lines
abbrev pub DenialsAreNumbered : List (List ℕ) → List Line → List Literal → ℕ → Literal → Type 0
DenialsAreNumbered numbers lines c group lit = (m : Literal) → Contains c m → m ≢ lit → IsNumbered numbers lines group (opposite m)

-- what a literal with this cause stands on has lines
abbrev pub PremisesAreNumbered : List (List ℕ) → List Line → ℕ → Literal → Cause → Type 0
PremisesAreNumbered numbers lines group lit (Clause name c) = DenialsAreNumbered numbers lines c group lit
PremisesAreNumbered numbers lines group lit (Site site lower m) = IsNumbered numbers lines lower m

-- each literal before this place has a line
abbrev pub AreNumbered : List Step → List (List ℕ) → List Line → ℕ → Type 0
AreNumbered trail numbers lines end =
    (place : ℕ) (step : Step) → place < end → slice_get trail place ≡ Some step → IsNumbered numbers lines step.group step.lit

-- what the code asks of a cause: that a clause is in order and has at most three literals, and that there is a number for
-- each literal that the cause stands on
abbrev pub IsRoomyCause : List (List ℕ) → ℕ → Literal → Cause → Type 0
IsRoomyCause numbers group lit (Clause name c) = Ascends 0 c × (length c ≤ 3) × ((m : Literal) → Contains c m → m ≢ lit → HasRoom numbers group (opposite m))
IsRoomyCause numbers group lit (Site site lower m) = HasRoom numbers lower m

-- what the code asks of a step
pub record IsRoomy (numbers : List (List ℕ)) (step : Step) : Type 0 where
  pub some : 0 < step.lit.var
  pub own : HasRoom numbers step.group step.lit
  pub cause : IsRoomyCause numbers step.group step.lit step.cause

abbrev pub AreRoomy : List (List ℕ) → List Step → Type 0
AreRoomy numbers trail = (place : ℕ) (step : Step) → slice_get trail place ≡ Some step → IsRoomy numbers step

-- a step stands at a place of a trail, and the lines of those before it are written
pub record IsReached (s : System) (U : ConstraintName → Bool) (trail : List Step) (place : ℕ) (numbers : List (List ℕ)) (step : Step) (w : Writer) : Type 0 where
  pub trail_is : IsTrail s U trail
  pub there : slice_get trail place ≡ Some step
  pub spelled : IsSpelled s U trail place w.lines.items
  pub premises : PremisesAreNumbered numbers w.lines.items step.group step.lit step.cause

-- the lines of a step were written, the last of which is its literal alone and has this number; None where the cost went
-- over the budget
pub record Spells (s : System) (U : ConstraintName → Bool) (trail : List Step) (place group : ℕ) (lit : Literal) (old new : Writer) (n : Option ℕ) : Type 0 where
  pub grows : Grows 16 old new
  pub answer : MatchOption n (IsOver s U new)
      (λ k. IsSpelled s U trail (place + 1) new.lines.items × IsWithin new × IsLineOf new.lines.items k group (lit ∷ []))

-- so in every system in which the step stands at a place of a trail
abbrev pub SpellsStep : List (List ℕ) → Step → Writer → Writer → Option ℕ → Type 0
SpellsStep numbers step old new n =
    (s : System) (U : ConstraintName → Bool) (trail : List Step) (place : ℕ) → IsReached s U trail place numbers step old → Spells s U trail place step.group step.lit old new n

-- the lines of all steps were written, and their numbers; false where the cost went over the budget
pub record SpellsAll (s : System) (U : ConstraintName → Bool) (trail : List Step) (old new : Writer) (numbers : List (List ℕ)) (whole : Bool) : Type 0 where
  pub grows : Grows (16 * length trail) old new
  pub answer : MatchBool whole
      (IsSpelled s U trail (length trail) new.lines.items × IsWithin new × AreNumbered trail numbers new.lines.items (length trail))
      (IsOver s U new)

-- the lines are whole: valid, no clause twice in a group, and they refute
pub record IsWhole (s : System) (U : ConstraintName → Bool) (w : Writer) : Type 0 where
  pub valid : IsValidIn s U w.lines.items
  pub once : NoClauseTwice w.lines.items
  pub refutes : Refutes s w.lines.items
  pub within : IsWithin w

-- the lines of two opposite literals of a group were resolved, and the empty line carried to the root, in every system in
-- which these are a group and the root; false where the cost went over the budget
abbrev pub Ends : ℕ → ℕ → ℕ → ℕ → Writer → Writer → Bool → Type 0
Ends group top first second old new whole =
    (s : System) (U : ConstraintName → Bool) (trail : List Step) (lit : Literal) → root s ≡ top → group ≤ top → IsSpelled s U trail (length trail) old.lines.items
    → IsLineOf old.lines.items first group (lit ∷ []) → IsLineOf old.lines.items second group (opposite lit ∷ []) → MatchBool whole (IsWhole s U new) (IsOver s U new)

-- so for the trail of all steps
abbrev pub SpellsTrail : List Step → Writer → Writer → List (List ℕ) → Bool → Type 0
SpellsTrail steps old new numbers whole = (s : System) (U : ConstraintName → Bool) → IsTrail s U steps → SpellsAll s U steps old new numbers whole

-- all lines of a trail that ends in the contradiction of a literal were written: whole, or up to the first at which the cost
-- went over the budget
pub record WritesAll (s : System) (U : ConstraintName → Bool) (steps : List Step) (old new : Writer) (whole : Bool) : Type 0 where
  pub words : new.words ≤ old.words + (16 * length steps + 2)
  pub budget : new.budget ≡ old.budget
  pub answer : MatchBool whole (IsWhole s U new) (IsOver s U new)

-- so in every system in which the steps are such a trail
abbrev pub WritesTrail : List Step → ℕ → Literal → ℕ → Writer → Writer → Bool → Type 0
WritesTrail steps group lit top old new whole = (s : System) (U : ConstraintName → Bool) → root s ≡ top → EndsIn s U group lit steps → WritesAll s U steps old new whole
