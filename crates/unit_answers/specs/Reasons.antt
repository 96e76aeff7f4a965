-- Why a literal is in a set: each stands on literals that were found before it, or on one of a lower group's set.
use Rattle.std.specs.Prelude.{◌≡◌, ◌≢◌, ℕ, ◌<◌, ◌≤◌, ◌↔◌, List, [], length, take, Some, slice_get}
use Rattle.std.specs.List.{Contains}
use Rattle.zo_core.specs.Literals.{Literal, opposite}
use Rattle.transfer_rules.specs.Names.{NamedClause}
use Rattle.verdict_meaning.specs.Systems.{System, root, callee, callees}
use Rattle.verdict_meaning.specs.Closures.{StandsFor}
use Rattle.unit_answers.specs.declared.findings.Reason.{Reason}
use Rattle.unit_answers.specs.declared.findings.Reason.TheVariants as why
use Rattle.unit_answers.specs.declared.findings.Finding.{Finding}
use Rattle.unit_answers.specs.Sets.{UnitSet, set_at, found}

-- each literal of the clause but l has its opposite among those known
abbrev pub AreDenied : List Literal → List Literal → Literal → Type 0
AreDenied known c l = (m : Literal) → Contains c m → m ≢ l → Contains known (opposite m)

-- clause k of the table holds l, and its other literals are denied
pub record IsForced (rows : List NamedClause) (known : List Literal) (k : ℕ) (l : Literal) : Type 0 where
  pub row : NamedClause
  pub at : slice_get rows k ≡ Some row
  pub holds : Contains row.lits l
  pub denied : AreDenied known row.lits l

-- at the site of a group, l stands for m, which is in the set of the group that is called there
pub record IsCarried (s : System) (g : ℕ) (sets : List UnitSet) (site : ℕ) (m l : Literal) : Type 0 where
  pub there : site < length (callees s g)
  pub stands : StandsFor s g site l m
  pub lower : (callee s g site).group < g
  pub found : Contains (found (set_at sets (callee s g site).group)) m

-- l is given, or forced by literals that are known, or carried
abbrev pub IsReason : System → ℕ → List NamedClause → List UnitSet → List Literal → List Literal → Reason → Literal → Type 0
IsReason s g rows sets from known why.Given l = Contains from l
IsReason s g rows sets from known (why.Clause k) l = IsForced rows known k l
IsReason s g rows sets from known (why.Site site m) l = IsCarried s g sets site m l

-- In the sets of all groups, where `table` tells the clauses of each: the literals found are those of the set, each once,
-- and each has a reason that stands on those before it. Nothing is given.
pub record AreReasoned (s : System) (table : ℕ → List NamedClause) (sets : List UnitSet) : Type 0 where
  pub same : (g : ℕ) → g ≤ root s → (l : Literal) → Contains (set_at sets g).lits l ↔ Contains (found (set_at sets g)) l
  pub once : (g j k : ℕ) (l : Literal) → g ≤ root s → slice_get (found (set_at sets g)) j ≡ Some l → slice_get (found (set_at sets g)) k ≡ Some l → j ≡ k
  pub each : (g p : ℕ) (f : Finding) → g ≤ root s → slice_get (set_at sets g).findings p ≡ Some f
      → IsReason s g (table g) sets [] (take p (found (set_at sets g))) f.reason f.lit
