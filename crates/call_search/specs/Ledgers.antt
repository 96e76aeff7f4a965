-- Lines that are kept, and the words that are left.
use Rattle.std.specs.Prelude.{◌≡◌, ℕ, suc, ◌+◌, ◌<◌, ◌≤◌, ◌^◌, Bool, true, List, ◌++◌, Some, length, slice_get}
use Rattle.std.specs.List.{Contains, All}
use Rattle.zo_core.specs.Literals.{Literal, opposite}
use Rattle.zo_core.specs.Truth.{holds}
use Rattle.conflict_proof.specs.declared.names.ConstraintName.{ConstraintName}
use Rattle.conflict_proof.specs.declared.derivation.Line.{Line}
use Rattle.verdict_meaning.specs.Systems.{System, count}
use Rattle.verdict_meaning.specs.Solutions.{IsLocal}
use Rattle.verdict_meaning.specs.Certificates.{bit_at}
use Rattle.verdict_meaning.specs.Derivations.{line_at, line_cost, cost_of, IsValidIn, IsRightLine, NoClauseTwice, IsCarriedBy, InstLinesAreTrue}
use Rattle.call_search.specs.Indexes.{Ledger}

-- valid lines without a clause twice in a group, whose words with those left have numbers
pub record IsLedger (s : System) (U : ConstraintName → Bool) (l : Ledger) : Type 0 where
  pub valid : IsValidIn s U l.lines
  pub once : NoClauseTwice l.lines
  pub small : cost_of l.lines + l.words < 2 ^ 32

-- lines were added and paid for
pub record Extends (s : System) (U : ConstraintName → Bool) (old new : Ledger) : Type 0 where
  pub more : List Line
  pub is : new.lines ≡ old.lines ++ more
  pub paid : cost_of new.lines + new.words ≡ cost_of old.lines + old.words
  pub ledger : IsLedger s U new

-- no line of the group has the clause
abbrev pub IsNew : List Line → ℕ → List Literal → Type 0
IsNew lines g c = (n : ℕ) (x : Line) → line_at lines n ≡ Some x → x.group ≡ g → x.lits ≡ c → ⊥

-- a line that is right and new, for which the words that are left don't suffice
pub record IsOver (s : System) (U : ConstraintName → Bool) (l : Ledger) (line : Line) : Type 0 where
  pub right : IsRightLine s U l.lines (suc (length l.lines)) line
  pub new : IsNew l.lines line.group line.lits
  pub over : l.words < line_cost line

-- a line of a group each of whose literals is the opposite of one that was given
pub record IsDenied (lines : List Line) (g : ℕ) (given : List Literal) (n : ℕ) : Type 0 where
  pub line : Line
  pub there : line_at lines n ≡ Some line
  pub group : line.group ≡ g
  pub denied : All (λ (l : Literal). Contains given (opposite l)) line.lits

-- literals of a group's unknowns, none of them with its opposite
pub record IsGiven (s : System) (g : ℕ) (given : List Literal) : Type 0 where
  pub within : All (λ (l : Literal). l.var ≤ count s g) given
  pub apart : (l : Literal) → Contains given l → Contains given (opposite l) → ⊥

-- bits of a group's unknowns that meet its constraints, what was given, and the lines that were carried to it
pub record IsSolved (s : System) (U : ConstraintName → Bool) (lines : List Line) (g : ℕ) (given : List Literal) (bits : List Bool) : Type 0 where
  pub size : length bits ≡ count s g
  pub local : IsLocal s U g (bit_at bits)
  pub holding : All (λ (l : Literal). holds (bit_at bits) l ≡ true) given
  pub carried : InstLinesAreTrue lines g (bit_at bits)

-- all lines are of one group, and none was carried there
abbrev pub AreOwn : ℕ → List Line → Type 0
AreOwn g lines = (n : ℕ) (x : Line) → slice_get lines n ≡ Some x → (x.group ≡ g) × (IsCarriedBy x.how → ⊥)

-- what a solver of a group adds is its own
pub record Solves (s : System) (U : ConstraintName → Bool) (g : ℕ) (old new : Ledger) : Type 0 where
  pub extends : Extends s U old new
  pub own : AreOwn g extends.more
