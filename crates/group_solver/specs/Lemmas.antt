-- The lines of a group in a ledger, as lemmas of its solver.
use Rattle.std.specs.Prelude.{◌≡◌, ℕ, ◌+◌, ◌≤◌, List, [], ◌∷◌, length, take, Some, slice_get, nat_eq, cond}
use Rattle.conflict_proof.specs.declared.derivation.Line.{Line}
use Rattle.verdict_meaning.specs.Derivations.{line_at, line_cost}
use Rattle.transfer_rules.specs.Names.{NamedClause, lits_of}
use Rattle.zo_solver.specs.Clauses.{AreWithin, EachClause}
use Rattle.zo_solver.specs.Trail.{IsClauseOver}
use Rattle.zo_solver.specs.Accounts.{Account}
use Rattle.zo_solver.specs.declared.answers.Origin.{Origin}
use Rattle.zo_solver.specs.declared.answers.Origin.TheVariants.{Lemma}
use Rattle.call_search.specs.Indexes.{Ledger}

-- the words that the lines of a group cost
abbrev pub words_of : ℕ → List Line → ℕ
words_of g [] = 0
words_of g (x ∷ xs) = cond (nat_eq x.group g) (line_cost x) 0 + words_of g xs

-- the unknowns of the group's lines are at most so many
abbrev pub AreOver : ℕ → ℕ → List Line → Type 0
AreOver vars g lines = (n : ℕ) (x : Line) → slice_get lines n ≡ Some x → x.group ≡ g → AreWithin vars x.lits

-- the clause of lemma k is that of line n, which is one of the group and of the first so many
pub record IsLemmaOf (lines : List Line) (g upto : ℕ) (a : Account) (k n : ℕ) : Type 0 where
  pub line : Line
  pub there : line_at lines n ≡ Some line
  pub within : n ≤ upto
  pub group : line.group ≡ g
  pub clause : slice_get a.lines k ≡ Some line.lits

-- the solver's lines are those of the group among the first lines of a ledger, which have these numbers there
pub record AreLemmas (lines : List Line) (g upto : ℕ) (ns : List ℕ) (a : Account) : Type 0 where
  pub size : length ns ≡ length a.lines
  pub sources : length a.origins ≡ length a.lines
  pub lemmas : (k : ℕ) (o : Origin) → slice_get a.origins k ≡ Some o → o ≡ Lemma
  pub each : (k n : ℕ) → slice_get ns k ≡ Some n → IsLemmaOf lines g upto a k n
  pub all : (n : ℕ) (x : Line) → n ≤ upto → line_at lines n ≡ Some x → x.group ≡ g → (k : ℕ) × (slice_get a.lines k ≡ Some x.lits)

-- they were added to a solver, and paid
pub record HasLemmas (lines : List Line) (g upto : ℕ) (ns : List ℕ) (first a : Account) : Type 0 where
  pub vars : a.vars ≡ first.vars
  pub given : a.given ≡ first.given
  pub are : AreLemmas lines g upto ns a
  pub words : a.words + words_of g (take upto lines) ≡ first.words

-- a solver over the clauses of a group, with the group's lines as lemmas, which has the words that are left
pub record IsBegun (rows : List NamedClause) (g bound : ℕ) (l : Ledger) (ns : List ℕ) (a : Account) : Type 0 where
  pub vars : a.vars ≡ bound
  pub given : a.given ≡ lits_of rows
  pub over : EachClause (IsClauseOver bound) (lits_of rows)
  pub are : AreLemmas l.lines g (length l.lines) ns a
  pub words : a.words ≡ l.words
