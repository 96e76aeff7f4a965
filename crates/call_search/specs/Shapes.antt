-- What the search needs of every program's groups.
use Rattle.std.specs.Prelude.{sum_by}
use Rattle.std.specs.Prelude.{ℕ, suc, ◌+◌, ◌<◌, ◌≤◌, ◌^◌, Bool, List, [], ◌∷◌, length, take}
use Rattle.std.specs.List.{Contains}
use Rattle.zo_core.specs.Literals.{Literal}
use Rattle.verdict_meaning.specs.declared.callee.Callee.{Callee}
use Rattle.verdict_meaning.specs.Systems.{System, root, members, callee, callees, callee_parts, count, parts_before}

-- a procedure in its group
pub record IsThere (s : System) (c : Callee) : Type 0 where
  pub group : c.group < root s
  pub member : Contains (members s c.group) c.proc

-- called groups stand below, and numbers are small
pub record IsShaped (s : System) : Type 0 where
  pub below : (g site : ℕ) → site < length (callees s g) → (callee s g site).group < g
  pub there : (g site : ℕ) → site < length (callees s g) → IsThere s (callee s g site)
  pub groups : root s < 2 ^ 32
  pub small : (g : ℕ) → g ≤ root s → count s g < 2 ^ 31
  pub few : (g : ℕ) → g ≤ root s → length (callees s g) < 2 ^ 32

-- how many unknowns of its group are before those of a procedure's interface
abbrev pub before_own : System → Callee → ℕ
before_own s c = s.fields + parts_before s c.proc (members s c.group)

-- how many unknowns of a group are before those of a site
abbrev pub before_site : System → ℕ → ℕ → ℕ
before_site s g site = s.fields + sum_by s.parts (members s g) + sum_by (callee_parts s) (take site (callees s g))

-- the literals that say that unknowns from this number on have these values
abbrev pub stated : ℕ → List Bool → List Literal
stated n [] = []
stated n (b ∷ bs) = record { var = n; sign = b } ∷ stated (suc n) bs
