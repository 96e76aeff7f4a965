-- The names of the constraints that a derivation uses.
use Rattle.std.specs.Prelude.{◌≡◌, ◌≢◌, ℕ, ⊤, List, [], ◌∷◌, Some, length}
use Rattle.std.specs.List.{Contains}
use Rattle.std.specs.declared.cmp.Ordering.TheVariants.{Less}
use Rattle.conflict_proof.specs.declared.names.ConstraintName.{ConstraintName}
use Rattle.conflict_proof.specs.declared.derivation.How.TheVariants.{Axiom, Resolve, Inst}
use Rattle.conflict_proof.specs.declared.derivation.Line.{Line}
use Rattle.conflict_proof.specs.Names.{name_order}
use Rattle.verdict_meaning.specs.Solutions.{same_rule}
use Rattle.verdict_meaning.specs.Derivations.{line_at}

-- each name is less than the next, in the order of names
abbrev pub AreAscending : List ConstraintName → Type 0
AreAscending [] = ⊤
AreAscending (n ∷ []) = ⊤
AreAscending (n ∷ m ∷ ns) = (name_order n m ≡ Less) × AreAscending (m ∷ ns)

-- line n is line m, or stands on it directly or through others
pub data StandsOn (lines : List Line) : ℕ → ℕ → Type 0 where
  itself : {n : ℕ} → StandsOn lines n n
  by_first : {n m i j : ℕ} (line : Line) → line_at lines n ≡ Some line → line.how ≡ Resolve i j → StandsOn lines i m → StandsOn lines n m
  by_second : {n m i j : ℕ} (line : Line) → line_at lines n ≡ Some line → line.how ≡ Resolve i j → StandsOn lines j m → StandsOn lines n m
  by_site : {n m i site : ℕ} (line : Line) → line_at lines n ≡ Some line → line.how ≡ Inst i site → StandsOn lines i m → StandsOn lines n m

-- line n stands on a clause of the constraint of this name
pub record IsAxiomOf (lines : List Line) (n : ℕ) (name : ConstraintName) : Type 0 where
  pub number : ℕ
  pub line : Line
  pub stands : StandsOn lines n number
  pub there : line_at lines number ≡ Some line
  pub how : line.how ≡ Axiom name

-- the names of the constraints on which the last line stands, in their order and each once; those of the rule that is
-- always in force are left aside
pub record AreUsedNames (lines : List Line) (names : List ConstraintName) : Type 0 where
  pub order : AreAscending names
  pub only : (name : ConstraintName) → Contains names name → IsAxiomOf lines (length lines) name × (name.rule ≢ same_rule)
  pub all : (name : ConstraintName) → IsAxiomOf lines (length lines) name → name.rule ≢ same_rule → Contains names name
