-- What propagation over a table of clauses adds.
use Rattle.std.specs.Prelude.{◌≡◌, ℕ, ◌<◌, ◌≤◌, Bool, true, false, List, ◌++◌, map, take, slice_get, Some}
use Rattle.std.specs.List.{All, Contains}
use Rattle.zo_core.specs.Literals.{Literal}
use Rattle.transfer_rules.specs.Names.{NamedClause}
use Rattle.verdict_meaning.specs.Systems.{System}
use Rattle.unit_answers.specs.declared.findings.Reason.TheVariants as why
use Rattle.unit_answers.specs.declared.findings.Finding.{Finding}
use Rattle.unit_answers.specs.Sets.{UnitSet, lit_of}
use Rattle.unit_answers.specs.Reasons.{AreDenied, IsReason}
use Rattle.unit_answers.specs.Trails.{Trail, known, Adds, Rises}

-- the literals of a table are of unknowns up to a number
abbrev pub IsWithin : ℕ → NamedClause → Type 0
IsWithin n row = All (λ (l : Literal). l.var ≤ n) row.lits

-- each literal found has a reason that stands on those before it
abbrev pub HaveReasons : System → ℕ → List NamedClause → List UnitSet → List Literal → List Finding → Type 0
HaveReasons s g rows sets from fs =
    (p : ℕ) (f : Finding) → slice_get fs p ≡ Some f → IsReason s g rows sets from (take p (map lit_of fs)) f.reason f.lit

-- literals were added at the end
pub record Grows (old new : Trail) : Type 0 where
  pub unknowns : new.unknowns ≡ old.unknowns
  pub more : List Finding
  pub grows : new.findings ≡ old.findings ++ more

-- literals were added, each for a clause of the table
pub record Forces (rows : List NamedClause) (old new : Trail) : Type 0 where
  pub grows : Grows old new
  pub keeps : (s : System) (g : ℕ) (sets : List UnitSet) (from : List Literal)
      → HaveReasons s g rows sets from old.findings → HaveReasons s g rows sets from new.findings

-- the clause forces l, which was added for it, or nothing was
abbrev pub IsForceStep : List Literal → ℕ → Literal → Trail → Trail → Bool → Type 0
IsForceStep c k l old new true = AreDenied (known old) c l × Adds l (why.Clause k) old new true
IsForceStep c k l old new false = (AreDenied (known old) c l → Contains (known old) l) × (new ≡ old)

-- the clause forces no literal that isn't known
abbrev pub IsClosedAt : List Literal → List Literal → Type 0
IsClosedAt ls c = (l : Literal) → Contains c l → AreDenied ls c l → Contains ls l

-- nor do the first n clauses of the table
abbrev pub AreClosedBelow : List Literal → List NamedClause → ℕ → Type 0
AreClosedBelow ls rows n = (k : ℕ) (row : NamedClause) → k < n → slice_get rows k ≡ Some row → IsClosedAt ls row.lits

-- nor does any
abbrev pub AreClosed : List Literal → List NamedClause → Type 0
AreClosed ls rows = (k : ℕ) (row : NamedClause) → slice_get rows k ≡ Some row → IsClosedAt ls row.lits

-- the first n literals of a clause were looked at, and added where they are forced
pub record IsVisited (rows : List NamedClause) (c : List Literal) (n : ℕ) (old new : Trail) (changed : Bool) : Type 0 where
  pub forces : Forces rows old new
  pub rises : changed ≡ true → Rises old new
  pub same : changed ≡ false → new ≡ old
  pub closed : changed ≡ false → (k : ℕ) (l : Literal) → k < n → slice_get c k ≡ Some l → AreDenied (known old) c l → Contains (known old) l

-- the first n clauses of the table were visited
pub record IsSwept (rows : List NamedClause) (n : ℕ) (old new : Trail) (changed : Bool) : Type 0 where
  pub forces : Forces rows old new
  pub rises : changed ≡ true → Rises old new
  pub same : changed ≡ false → new ≡ old
  pub closed : changed ≡ false → AreClosedBelow (known old) rows n
