-- Sets to which nothing is to be added.
use Rattle.std.specs.Prelude.{◌≡◌, ℕ, ◌<◌, ◌≤◌, ◌↔◌, List, [], length, map, slice_get, Some}
use Rattle.std.specs.List.{Contains}
use Rattle.std.specs.List.Sorted.{IsStrictlyIncreasing}
use Rattle.zo_core.specs.Literals.{Literal}
use Rattle.transfer_rules.specs.Names.{NamedClause}
use Rattle.verdict_meaning.specs.Systems.{System, callee, callees, count as many}
use Rattle.verdict_meaning.specs.Closures.{StandsFor}
use Rattle.unit_answers.specs.declared.layouts.Call.{Call}
use Rattle.unit_answers.specs.Sets.{UnitSet, set_at, found, rank}
use Rattle.unit_answers.specs.Reasons.{IsCarried}
use Rattle.unit_answers.specs.Layouts.{StandsAt}
use Rattle.unit_answers.specs.Trails.{Trail, known}
use Rattle.unit_answers.specs.Propagation.{HaveReasons, Grows, AreClosed}

-- of the first n literals of a called group's set, those are known for which something stands at the site
pub record Takes (fields site : ℕ) (c : Call) (lower : List Literal) (n : ℕ) (old new : Trail) : Type 0 where
  pub grows : Grows old new
  pub keeps : (s : System) (g : ℕ) (rows : List NamedClause) (sets : List UnitSet) (from : List Literal)
      → ((m l : Literal) → Contains lower m → StandsAt fields c m l → IsCarried s g sets site m l)
      → HaveReasons s g rows sets from old.findings → HaveReasons s g rows sets from new.findings
  pub holds : (k : ℕ) (m l : Literal) → k < n → slice_get lower k ≡ Some m → StandsAt fields c m l → Contains (known new) l

-- the same of all its literals
pub record TakesAll (fields site : ℕ) (c : Call) (lower : List Literal) (old new : Trail) : Type 0 where
  pub grows : Grows old new
  pub keeps : (s : System) (g : ℕ) (rows : List NamedClause) (sets : List UnitSet) (from : List Literal)
      → ((m l : Literal) → Contains lower m → StandsAt fields c m l → IsCarried s g sets site m l)
      → HaveReasons s g rows sets from old.findings → HaveReasons s g rows sets from new.findings
  pub holds : (m l : Literal) → Contains lower m → StandsAt fields c m l → Contains (known new) l

-- what stands at the first n sites for literals of the called groups' sets is known
abbrev pub AreSitesClosed : System → ℕ → List UnitSet → List Literal → ℕ → Type 0
AreSitesClosed s g sets ls n =
    (site : ℕ) (m l : Literal) → site < n → StandsFor s g site l m → Contains (set_at sets (callee s g site).group).lits m → Contains ls l

-- nothing was given, and the first n sites have been carried
pub record IsEntered (s : System) (g : ℕ) (rows : List NamedClause) (sets : List UnitSet) (n : ℕ) (t : Trail) : Type 0 where
  pub reasons : HaveReasons s g rows sets [] t.findings
  pub sites : AreSitesClosed s g sets (known t) n

-- each set is in order, the same literals were found, and each once
pub record IsOrdered (set : UnitSet) : Type 0 where
  pub ascend : IsStrictlyIncreasing (map rank set.lits)
  pub some : (l : Literal) → Contains set.lits l → 0 < l.var
  pub same : (l : Literal) → Contains set.lits l ↔ Contains (found set) l
  pub once : (j k : ℕ) (l : Literal) → slice_get (found set) j ≡ Some l → slice_get (found set) k ≡ Some l → j ≡ k

-- the set has those given, each of its literals has a reason, and neither a clause nor a site asks for another
pub record IsSettled (s : System) (g : ℕ) (rows : List NamedClause) (sets : List UnitSet) (from : List Literal) (set : UnitSet) : Type 0 where
  pub reasons : HaveReasons s g rows sets from set.findings
  pub givens : (m : Literal) → Contains from m → Contains (found set) m
  pub clauses : AreClosed (found set) rows
  pub sites : AreSitesClosed s g sets (found set) (length (callees s g))

-- the sets of the groups below a number are in order
pub record AreLower (g : ℕ) (sets : List UnitSet) : Type 0 where
  pub count : length sets ≡ g
  pub each : (e : ℕ) → e < g → IsOrdered (set_at sets e)

-- The sets of the groups below a number: each is in order and settled over all of them, by the table of its clauses.
pub record AreSettled (s : System) (table : ℕ → List NamedClause) (n : ℕ) (sets : List UnitSet) : Type 0 where
  pub count : length sets ≡ n
  pub ordered : (g : ℕ) → g < n → IsOrdered (set_at sets g)
  pub within : (g : ℕ) (l : Literal) → g < n → Contains (set_at sets g).lits l → l.var ≤ many s g
  pub each : (g : ℕ) → g < n → IsSettled s g (table g) sets [] (set_at sets g)
