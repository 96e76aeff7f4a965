-- Sets to which literals are given.
use Rattle.std.specs.Prelude.{ℕ, List}
use Rattle.std.specs.List.{Contains}
use Rattle.zo_core.specs.Literals.{Literal}
use Rattle.transfer_rules.specs.Names.{NamedClause}
use Rattle.verdict_meaning.specs.Systems.{System}
use Rattle.unit_answers.specs.Sets.{UnitSet}
use Rattle.unit_answers.specs.Trails.{Trail, known}
use Rattle.unit_answers.specs.Propagation.{HaveReasons, Grows, AreClosed}

-- these literals were added as given
pub record Gives (given : List Literal) (old new : Trail) : Type 0 where
  pub grows : Grows old new
  pub keeps : (s : System) (g : ℕ) (rows : List NamedClause) (sets : List UnitSet) (from : List Literal) → ((l : Literal) → Contains given l → Contains from l)
      → HaveReasons s g rows sets from old.findings → HaveReasons s g rows sets from new.findings
  pub holds : (l : Literal) → Contains given l → Contains (known new) l

-- the literals of a set and those given are known, and are all given
pub record IsOpened (own given : List Literal) (t : Trail) : Type 0 where
  pub reasons : (s : System) (g : ℕ) (rows : List NamedClause) (sets : List UnitSet) (from : List Literal) → ((l : Literal) → Contains own l → Contains from l)
      → ((l : Literal) → Contains given l → Contains from l) → HaveReasons s g rows sets from t.findings
  pub kept : (l : Literal) → Contains own l → Contains (known t) l
  pub said : (l : Literal) → Contains given l → Contains (known t) l

-- and the clauses force no literal that isn't known
pub record IsReopened (own given : List Literal) (rows : List NamedClause) (t : Trail) : Type 0 where
  pub reasons : (s : System) (g : ℕ) (sets : List UnitSet) (from : List Literal) → ((l : Literal) → Contains own l → Contains from l)
      → ((l : Literal) → Contains given l → Contains from l) → HaveReasons s g rows sets from t.findings
  pub kept : (l : Literal) → Contains own l → Contains (known t) l
  pub said : (l : Literal) → Contains given l → Contains (known t) l
  pub closed : AreClosed (known t) rows
