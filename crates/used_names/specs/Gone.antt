-- How far the lines have been gone back over.
use Rattle.std.specs.Prelude.{◌≡◌, ℕ, ◌<◌, ◌≤◌, ⊤, Bool, true, List, Some, length}
use Rattle.conflict_proof.specs.declared.derivation.How.{How}
use Rattle.conflict_proof.specs.declared.derivation.How.TheVariants.{Axiom, Resolve, Inst}
use Rattle.conflict_proof.specs.declared.derivation.Line.{Line}
use Rattle.verdict_meaning.specs.Derivations.{line_at}
use Rattle.verdict_meaning.specs.UsedNames.{StandsOn}
use Rattle.used_names.specs.Marks.{is_marked}

-- line i is marked, if there is one
abbrev pub Has : List Bool → ℕ → Type 0
Has marks i = 0 < i → i ≤ length marks → is_marked marks i ≡ true

-- so are the lines that a line of this origin names
abbrev pub HasPremises : List Bool → How → Type 0
HasPremises marks (Axiom name) = ⊤
HasPremises marks (Resolve i j) = Has marks i × Has marks j
HasPremises marks (Inst i site) = Has marks i

-- the last line stands on the marked ones, is marked itself, and what a marked line above k names is marked
pub record IsGoneBack (lines : List Line) (marks : List Bool) (k : ℕ) : Type 0 where
  pub count : length marks ≡ length lines
  pub only : (m : ℕ) → is_marked marks m ≡ true → StandsOn lines (length lines) m
  pub last : Has marks (length lines)
  pub closed : (n : ℕ) (line : Line) → k < n → line_at lines n ≡ Some line → is_marked marks n ≡ true → HasPremises marks line.how
