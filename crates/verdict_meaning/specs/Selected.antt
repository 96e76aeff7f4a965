-- Some of a derivation's lines, with their new numbers.
use Rattle.std.specs.Prelude.{◌≡◌, ℕ, zero, suc, Bool, true, false, List, [], ◌∷◌, Some, slice_index_or}
use Rattle.conflict_proof.specs.declared.names.ConstraintName.{ConstraintName}
use Rattle.conflict_proof.specs.declared.derivation.How.{How}
use Rattle.conflict_proof.specs.declared.derivation.How.TheVariants.{Axiom, Resolve, Inst}
use Rattle.conflict_proof.specs.declared.derivation.Line.{Line}
use Rattle.verdict_meaning.specs.Systems.{System}
use Rattle.verdict_meaning.specs.Derivations.{line_at, IsValidIn}

-- how many of the first n marks are set, which is the new number of line n where it is marked
abbrev pub rank : List Bool → ℕ → ℕ
rank [] n = 0
rank (b ∷ ms) zero = 0
rank (true ∷ ms) (suc n) = suc (rank ms n)
rank (false ∷ ms) (suc n) = rank ms n

-- where a line comes from, by new numbers
abbrev pub renumbered : List Bool → How → How
renumbered marks (Axiom name) = Axiom name
renumbered marks (Resolve i j) = Resolve (rank marks i) (rank marks j)
renumbered marks (Inst i site) = Inst (rank marks i) site

-- a line by new numbers
abbrev pub with_numbers : List Bool → Line → Line
with_numbers marks l = record { group = l.group; how = renumbered marks l.how; lits = l.lits }

-- the lines of a list that its marks keep, by the new numbers of all marks
abbrev pub selected_from : List Bool → List Bool → List Line → List Line
selected_from all [] ls = []
selected_from all (b ∷ ms) [] = []
selected_from all (true ∷ ms) (l ∷ ls) = with_numbers all l ∷ selected_from all ms ls
selected_from all (false ∷ ms) (l ∷ ls) = selected_from all ms ls

-- the lines that are marked
abbrev pub selected : List Bool → List Line → List Line
selected marks lines = selected_from marks marks lines

-- lines are numbered from 1
abbrev pub is_marked : List Bool → ℕ → Bool
is_marked ms zero = false
is_marked ms (suc n) = slice_index_or ms n false

-- the lines that a line names are marked
abbrev pub PremisesAreMarked : List Bool → How → Type 0
PremisesAreMarked marks (Axiom name) = Unit {0}
PremisesAreMarked marks (Resolve i j) = (is_marked marks i ≡ true) × (is_marked marks j ≡ true)
PremisesAreMarked marks (Inst i site) = is_marked marks i ≡ true

-- Lines are valid without others on which none of them stands.
abbrev pub SelectedAreValid : Type 0
SelectedAreValid =
    (s : System) (U : ConstraintName → Bool) (marks : List Bool) (lines : List Line) → IsValidIn s U lines
    → ((n : ℕ) (line : Line) → line_at lines n ≡ Some line → is_marked marks n ≡ true → PremisesAreMarked marks line.how)
    → IsValidIn s U (selected marks lines)
