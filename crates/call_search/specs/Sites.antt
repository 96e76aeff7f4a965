-- Renaming at a site, and lines there.
use Rattle.std.specs.Prelude.{◌≡◌, ℕ, ◌+◌, ◌-◌, ◌<◌, ◌≤◌, ◌⊎◌, Bool, false, nat_le, nat_lt, ◌||◌, cond, List, Some, length}
use Rattle.std.specs.List.{All, Contains}
use Rattle.zo_core.specs.Literals.{Literal}
use Rattle.zo_core.specs.Truth.{clause_true}
use Rattle.zo_core.specs.Order.{gathered}
use Rattle.zo_core.specs.Renames.{renamed}
use Rattle.conflict_proof.specs.declared.names.ConstraintName.{ConstraintName}
use Rattle.conflict_proof.specs.declared.derivation.Line.{Line}
use Rattle.verdict_meaning.specs.Systems.{System, callee}
use Rattle.verdict_meaning.specs.Certificates.{bit_at}
use Rattle.verdict_meaning.specs.Derivations.{line_at, IsRightLine}
use Rattle.call_search.specs.Shapes.{before_own, before_site}

-- the unknown that stands for one of the called group, where the interface has so many parts, after so many unknowns
-- there and so many at the site
abbrev pub site_image : ℕ → ℕ → ℕ → ℕ → ℕ
site_image own parts site v = cond (nat_le v own || nat_lt (own + parts) v) v (v - own + site)

-- the same at a site of a group
abbrev pub image_at : System → ℕ → ℕ → ℕ → ℕ
image_at s g site = site_image (before_own s (callee s g site)) (s.parts (callee s g site).proc) (before_site s g site)

-- a clause with other unknowns in place of its own
pub record IsCarriedClause (img : ℕ → ℕ) (from new : List Literal) : Type 0 where
  pub made : gathered (renamed img from) ≡ Some new
  pub truth : (t : ℕ → Bool) → clause_true t new ≡ clause_true (λ v. t (img v)) from

-- a line of this number
pub record IsLine (lines : List Line) (n : ℕ) : Type 0 where
  pub line : Line
  pub there : line_at lines n ≡ Some line

-- these are the literals of the line
abbrev pub IsLitsOf : List Line → ℕ → List Literal → Type 0
IsLitsOf lines n lits = (line : Line) → line_at lines n ≡ Some line → lits ≡ line.lits

-- an unknown of the fields, or one that stands for the interface that a site of a group asks for
abbrev pub IsOfSite : System → ℕ → ℕ → ℕ → Type 0
IsOfSite s g site v = (v ≤ s.fields) ⊎ ((before_site s g site < v) × (v ≤ before_site s g (site + 1)))

-- a line that is right at a site of a group, is false by bits, and speaks of fields and of what the site asks for alone
pub record IsSaidAt (s : System) (U : ConstraintName → Bool) (lines : List Line) (g site : ℕ) (bits : List Bool) (line : Line) : Type 0 where
  pub group : line.group ≡ g
  pub right : IsRightLine s U lines (length lines + 1) line
  pub denied : clause_true (bit_at bits) line.lits ≡ false
  pub here : All (λ (l : Literal). IsOfSite s g site l.var) line.lits

-- a literal of the clause is of an unknown above this one
pub record HasOther (fields : ℕ) (c : List Literal) : Type 0 where
  pub literal : Literal
  pub there : Contains c literal
  pub above : fields < literal.var
