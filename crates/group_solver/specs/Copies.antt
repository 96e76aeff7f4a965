-- What a solver of a group learnt, copied into a ledger.
use Rattle.std.specs.Prelude.{◌≡◌, ℕ, suc, ◌+◌, ◌<◌, ◌≤◌, Bool, true, List, [], ◌∷◌, ◌++◌, length, drop, Some, slice_get, slice_index_or}
use Rattle.std.specs.List.{Contains}
use Rattle.zo_core.specs.Literals.{Literal}
use Rattle.conflict_proof.specs.declared.derivation.How.{How}
use Rattle.conflict_proof.specs.declared.derivation.How.TheVariants.{Axiom, Resolve, Inst}
use Rattle.conflict_proof.specs.declared.derivation.Line.{Line}
use Rattle.transfer_rules.specs.Names.{NamedClause, named_clause, lits_of}
use Rattle.transfer_rules.specs.Table.{no_clause}
use Rattle.verdict_meaning.specs.Derivations.{line_at, line_cost, cost_of, IsResolventLine, NoClauseTwice}
use Rattle.zo_solver.specs.Clauses.{numbered, cost}
use Rattle.zo_solver.specs.Trail.{IsClauseOver}
use Rattle.zo_solver.specs.Derived.{IsTrueOrigin}
use Rattle.zo_solver.specs.Accounts.{Account}
use Rattle.zo_solver.specs.declared.answers.Origin.{Origin}
use Rattle.zo_solver.specs.declared.answers.Origin.TheVariants.{Given, Lemma, Resolved}
use Rattle.call_search.specs.Ledgers.{IsNew}
use Rattle.group_solver.specs.Marks.{AreAll}
use Rattle.call_search.specs.Indexes.{Ledger}

-- Lines of a group's own

-- line n of a group is a clause of the group's table, or the resolvent of two earlier lines of the group
abbrev pub IsOwnHow : List NamedClause → List Line → ℕ → ℕ → How → List Literal → Type 0
IsOwnHow rows lines n g (Axiom name) c = Contains rows (named_clause name c)
IsOwnHow rows lines n g (Resolve i j) c = IsResolventLine lines n g i j c
IsOwnHow rows lines n g (Inst i site) c = ⊥

-- line n is one of the group, of so many unknowns, and is what it says it is
pub record IsOwnLine (rows : List NamedClause) (lines : List Line) (n g vars : ℕ) (x : Line) : Type 0 where
  pub group : x.group ≡ g
  pub clause : IsClauseOver vars x.lits
  pub right : IsOwnHow rows lines n g x.how x.lits

-- line n is one of the group with this clause
pub record IsLineOf (lines : List Line) (n g : ℕ) (c : List Literal) : Type 0 where
  pub line : Line
  pub there : line_at lines n ≡ Some line
  pub group : line.group ≡ g
  pub clause : line.lits ≡ c

-- lines of the group's own were added, none with a clause that the group had, and paid
pub record IsCopied (rows : List NamedClause) (g vars : ℕ) (old new : Ledger) : Type 0 where
  pub more : List Line
  pub is : new.lines ≡ old.lines ++ more
  pub right : (n : ℕ) (x : Line) → length old.lines < n → line_at new.lines n ≡ Some x → IsOwnLine rows new.lines n g vars x
  pub once : NoClauseTwice new.lines
  pub paid : cost_of new.lines + new.words ≡ cost_of old.lines + old.words

-- the next line, for which the words don't suffice
pub record IsNext (rows : List NamedClause) (g vars : ℕ) (l : Ledger) (x : Line) : Type 0 where
  pub own : IsOwnLine rows l.lines (suc (length l.lines)) g vars x
  pub new : IsNew l.lines x.group x.lits
  pub over : l.words < line_cost x

-- Copying

-- one of the solver's first lines has the clause
abbrev pub IsAmong : Account → ℕ → List Literal → Type 0
IsAmong a n c = (k : ℕ) × (k < n) × (slice_get a.lines k ≡ Some c)

-- The solver's first lines have their places in the ledger, those of them that are wanted; the others of them were left out.
-- Its later lines can be paid.
pub record IsCopying (rows : List NamedClause) (g vars : ℕ) (a : Account) (wanted : List Bool) (old new : Ledger) (ns : List ℕ) : Type 0 where
  pub given : a.given ≡ lits_of rows
  pub copied : IsCopied rows g vars old new
  pub known : (n : ℕ) (x : Line) → line_at new.lines n ≡ Some x → x.group ≡ g → IsAmong a (length ns) x.lits
  pub placed : (k n : ℕ) (c : List Literal) → slice_get ns k ≡ Some n → slice_get a.lines k ≡ Some c → slice_get wanted k ≡ Some true → IsLineOf new.lines n g c
  pub low : a.words + cost (drop (length ns) a.lines) ≤ new.words
  pub exact : AreAll wanted → new.words ≡ a.words + cost (drop (length ns) a.lines)

-- nothing was copied yet, whatever lines are wanted
abbrev pub IsReady : List NamedClause → ℕ → ℕ → Account → Ledger → List ℕ → Type 0
IsReady rows g vars a l ns = (wanted : List Bool) → IsCopying rows g vars a wanted l l ns

-- the number of a given clause is one of the table
abbrev pub HasRow : List NamedClause → Origin → Type 0
HasRow rows (Given k) = k < length rows
HasRow rows Lemma = Unit {0}
HasRow rows (Resolved a b) = Unit {0}

-- by places of lines, the resolvent of two of them
pub record IsResolveOf (ns : List ℕ) (a b : ℕ) (how : How) : Type 0 where
  pub first : ℕ
  pub second : ℕ
  pub first_at : numbered ns a ≡ Some first
  pub second_at : numbered ns b ≡ Some second
  pub is : how ≡ Resolve first second

-- where a line comes from, by names of constraints and by places of lines
abbrev pub HowIs : List NamedClause → List ℕ → Origin → How → Type 0
HowIs rows ns (Given k) how = how ≡ Axiom (slice_index_or rows k no_clause).name
HowIs rows ns Lemma how = ⊥
HowIs rows ns (Resolved a b) how = IsResolveOf ns a b how

-- a line of the solver was put behind those of the ledger, and paid
pub record IsPut (rows : List NamedClause) (g vars : ℕ) (a : Account) (ns : List ℕ) (number : ℕ) (old new : Ledger) (place : ℕ) : Type 0 where
  pub line : Line
  pub is : new.lines ≡ old.lines ++ line ∷ []
  pub group : line.group ≡ g
  pub clause : IsClauseOver vars line.lits
  pub clause_at : numbered a.lines number ≡ Some line.lits
  pub origin : Origin
  pub origin_at : numbered a.origins number ≡ Some origin
  pub origin_true : IsTrueOrigin a.given a.lines number line.lits origin
  pub how : HowIs rows ns origin line.how
  pub words : new.words + (length line.lits + 1) ≡ old.words
  pub place_is : place ≡ length new.lines
