-- Lines of a derivation that are left where others are not needed.
use Rattle.std.specs.Prelude.{◌≡◌, ℕ, suc, ◌<◌, ◌≤◌, ⊤, Bool, true, false, List, [], ◌∷◌, Some, length, slice_index, slice_index_or}
use Rattle.conflict_proof.specs.declared.names.ConstraintName.{ConstraintName}
use Rattle.conflict_proof.specs.declared.derivation.How.{How}
use Rattle.conflict_proof.specs.declared.derivation.How.TheVariants.{Axiom, Resolve, Inst}
use Rattle.conflict_proof.specs.declared.derivation.Line.{Line}
use Rattle.verdict_meaning.specs.Systems.{System}
use Rattle.call_summary.specs.declared.inferred.Inferred.{Inferred}
use Rattle.call_summary.specs.declared.inferred.Inferred.TheVariants.{Accepted, Refuted, Undecided}
use Rattle.verdict_meaning.specs.Derivations.{IsValidIn, Refutes, cost_of, line_at}
use Rattle.verdict_meaning.specs.Selected.{rank, is_marked, selected, PremisesAreMarked}

-- what a line of this origin stands on comes before the number n
abbrev pub IsBehind : How → ℕ → Type 0
IsBehind (Axiom name) n = ⊤
IsBehind (Resolve i j) n = (0 < i) × (i < n) × (0 < j) × (j < n)
IsBehind (Inst i site) n = (0 < i) × (i < n)

-- each line stands on earlier lines alone, as those of a valid derivation do
abbrev pub StandBack : List Line → Type 0
StandBack lines = (n : ℕ) (line : Line) → line_at lines n ≡ Some line → IsBehind line.how n

-- the first marks are set, and the others are as they were
pub record AreSet (old new : List Bool) (upto : ℕ) : Type 0 where
  pub count : length new ≡ length old
  pub front : (m : ℕ) → m < upto → slice_index_or new m false ≡ true
  pub rest : (m : ℕ) → upto ≤ m → slice_index_or new m false ≡ slice_index_or old m false

-- The marked lines stand on marked ones alone; among them are the first ones, so many, and the last one.
pub record AreLeft (lines : List Line) (first : ℕ) (marks : List Bool) : Type 0 where
  pub count : length marks ≡ length lines
  pub front : (m : ℕ) → m < first → slice_index_or marks m false ≡ true
  pub last : 0 < length lines → is_marked marks (length lines) ≡ true
  pub closed : (n : ℕ) (line : Line) → line_at lines n ≡ Some line → is_marked marks n ≡ true → PremisesAreMarked marks line.how

-- the lines that are left, with their new numbers
pub record IsTrim (lines : List Line) (first : ℕ) (new : List Line) : Type 0 where
  pub marks : List Bool
  pub left : AreLeft lines first marks
  pub is : new ≡ selected marks lines

-- the answer that the lines which are left make
abbrev pub IsTrimmed : List Line → ℕ → Inferred → Type 0
IsTrimmed lines first (Accepted c) = ⊥
IsTrimmed lines first (Refuted d names) = IsTrim lines first d.lines
IsTrimmed lines first (Undecided d) = ⊥

-- the new numbers of the first lines, and of no line
pub record AreRanks (marks : List Bool) (numbers : List ℕ) (upto : ℕ) : Type 0 where
  pub count : length numbers ≡ suc upto
  pub each : (n : ℕ) → n ≤ upto → slice_index numbers n ≡ rank marks n

-- an origin by new numbers
abbrev pub by_numbers : List ℕ → How → How
by_numbers numbers (Axiom name) = Axiom name
by_numbers numbers (Resolve i j) = Resolve (slice_index numbers i) (slice_index numbers j)
by_numbers numbers (Inst i site) = Inst (slice_index numbers i) site

-- a line by new numbers
abbrev pub by_new : List ℕ → Line → Line
by_new numbers x = record { group = x.group; how = by_numbers numbers x.how; lits = x.lits }

-- the line alone, where it is wanted
abbrev pub line_if : Bool → Line → List Line
line_if true x = x ∷ []
line_if false x = []

-- lines that refute and cost no more than these words
pub record IsRefutationFor (s : System) (U : ConstraintName → Bool) (words : ℕ) (lines : List Line) : Type 0 where
  pub valid : IsValidIn s U lines
  pub refutes : Refutes s lines
  pub cost : cost_of lines ≤ words
