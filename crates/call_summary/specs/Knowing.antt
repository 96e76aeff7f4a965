-- What an inference answers where lines are known.
use Rattle.std.specs.Prelude.{◌≡◌, ℕ, ◌+◌, Bool, List, [], Some}
use Rattle.conflict_proof.specs.declared.names.ConstraintName.{ConstraintName}
use Rattle.conflict_proof.specs.declared.derivation.How.{How}
use Rattle.conflict_proof.specs.declared.derivation.How.TheVariants.{Axiom, Resolve, Inst}
use Rattle.conflict_proof.specs.declared.derivation.Line.{Line}
use Rattle.verdict_meaning.specs.Systems.{System, root}
use Rattle.verdict_meaning.specs.Derivations.{cost_of, line_at}
use Rattle.call_search.specs.Verdicts.{AreKnown, BeginsWith}
use Rattle.call_summary.specs.declared.inferred.Inferred.{Inferred}
use Rattle.call_summary.specs.declared.inferred.Inferred.TheVariants.{Accepted, Refuted, Undecided}
use Rattle.call_summary.specs.declared.inferred.Known.{Known}
use Rattle.call_summary.specs.Inferences.{AnswerIs}
use Rattle.call_summary.specs.Joins.{HaveClauses}

-- line n has no literals
pub record IsEmptyAt (lines : List Line) (n : ℕ) : Type 0 where
  pub line : Line
  pub there : line_at lines n ≡ Some line
  pub empty : line.lits ≡ []

-- each line has a literal
abbrev pub NoneIsEmpty : List Line → Type 0
NoneIsEmpty lines = (n : ℕ) → IsEmptyAt lines n → ⊥

-- the derivation of an answer begins with these lines
abbrev pub AnswerBegins : List Line → Inferred → Type 0
AnswerBegins known (Accepted c) = Unit {0}
AnswerBegins known (Refuted d names) = BeginsWith known d.lines
AnswerBegins known (Undecided d) = BeginsWith known d.lines

-- for each line of the derivation of an answer that is not the root's there is one with its clause in its group
abbrev pub HaveAnswer : ℕ → List Line → Inferred → Type 0
HaveAnswer top lines (Accepted c) = Unit {0}
HaveAnswer top lines (Refuted d names) = HaveClauses top lines d.lines
HaveAnswer top lines (Undecided d) = HaveClauses top lines d.lines

-- the answer is that the constraints cannot be met
abbrev pub IsRefusal : Inferred → Type 0
IsRefusal (Accepted c) = ⊥
IsRefusal (Refuted d names) = Unit {0}
IsRefusal (Undecided d) = ⊥

-- The answer under a budget for what comes after the known lines. Its derivation begins with them; so do the lines that come
-- with it, which are known lines again, and have the clauses of the derivation outside the root. Where a known line has no
-- literals, the constraints cannot be met.
pub record KnownIs (s : System) (U : ConstraintName → Bool) (known : List Line) (budget : ℕ) (k : Known) : Type 0 where
  pub answer : AnswerIs s U (cost_of known + budget) budget k.inferred
  pub begins : AnswerBegins known k.inferred
  pub lines : AreKnown s U k.lines.lines
  pub first : BeginsWith known k.lines.lines
  pub have : HaveAnswer (root s) k.lines.lines k.inferred
  pub at_once : (n : ℕ) → IsEmptyAt known n → IsRefusal k.inferred

-- where a line comes from, with so many lines before
abbrev pub shifted_how : ℕ → How → How
shifted_how k (Axiom name) = Axiom name
shifted_how k (Resolve i j) = Resolve (k + i) (k + j)
shifted_how k (Inst i site) = Inst (k + i) site

abbrev pub shifted : ℕ → Line → Line
shifted k x = record { group = x.group; how = shifted_how k x.how; lits = x.lits }
