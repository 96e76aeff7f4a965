-- The tables of a program's shapes.
use Rattle.std.specs.Prelude.{◌≡◌, ℕ, suc, ◌+◌, ◌<◌, ◌≤◌, ◌^◌, true, List, length, take, sum_by, Some, slice_get}
use Rattle.std.specs.List.{Contains}
use Rattle.verdict_meaning.specs.declared.callee.Callee.{Callee}
use Rattle.verdict_meaning.specs.Systems.{System, root, members, callee, callees, callee_parts, count}
use Rattle.call_search.specs.Shapes.{IsThere, before_own, before_site}
use Rattle.flow_graph.specs.Fits.{is_in}
use Rattle.unit_answers.specs.declared.layouts.Call.{Call}
use Rattle.program_shapes.specs.declared.procs.ProcShape.{ProcShape}
use Rattle.program_shapes.specs.declared.groups.SiteShape.{SiteShape}

-- what there is of procedure k, with so many unknowns before those of its interface
pub record IsProcOf (s : System) (k first : ℕ) (p : ProcShape) : Type 0 where
  pub parts : p.parts ≡ s.parts k
  pub before : p.before ≡ first
  pub places : p.places ≡ s.places k
  pub width : p.width ≡ s.width k

-- what there is of a procedure in its group
abbrev pub IsProcShape : System → Callee → ProcShape → Type 0
IsProcShape s c p = IsProcOf s c.proc (before_own s c) p

-- by procedure, for each procedure of a group
pub record AreProcShapes (s : System) (ps : List ProcShape) : Type 0 where
  pub within : (c : Callee) → IsThere s c → c.proc < length ps
  pub each : (c : Callee) (p : ProcShape) → IsThere s c → slice_get ps c.proc ≡ Some p → IsProcShape s c p

-- the members of a group were put down, and the others are kept
pub record HoldsGroup (s : System) (g : ℕ) (old new : List ProcShape) : Type 0 where
  pub size : length new ≡ length old
  pub these : (k : ℕ) (p : ProcShape) → Contains (members s g) k → slice_get new k ≡ Some p → IsProcShape s (record { proc = k; group = g }) p
  pub others : (k : ℕ) → (Contains (members s g) k → ⊥) → slice_get new k ≡ slice_get old k

-- how many parts the interface has that a call calls
abbrev pub parts_there : Call → ℕ
parts_there c = c.there.count

-- site k makes call k, and the parts of those before it stand before its own
pub record IsSiteOf (outer k : ℕ) (calls : List Call) (x : SiteShape) : Type 0 where
  pub call : Call
  pub there : slice_get calls k ≡ Some call
  pub callee : x.callee ≡ call.callee
  pub before : x.before ≡ outer + sum_by parts_there (take k calls)

-- the sites that make the first calls
pub record AreSitesOf (outer n : ℕ) (calls : List Call) (xs : List SiteShape) : Type 0 where
  pub size : length xs ≡ n
  pub each : (k : ℕ) (x : SiteShape) → slice_get xs k ≡ Some x → IsSiteOf outer k calls x

-- a site of a group
pub record IsSiteShape (s : System) (g site : ℕ) (x : SiteShape) : Type 0 where
  pub callee_is : x.callee ≡ callee s g site
  pub before : x.before ≡ before_site s g site

pub record GroupTable : Type 0 where
  -- how many unknowns
  pub count : ℕ
  -- how many parts the interfaces of the members have, and those that the sites call
  pub own : ℕ
  pub called : ℕ
  pub sites : List SiteShape

-- what there is of a group or of the root
pub record IsGroupTable (s : System) (g : ℕ) (x : GroupTable) : Type 0 where
  pub count_is : x.count ≡ count s g
  pub small : x.count < 2 ^ 31
  pub own : x.own ≡ sum_by s.parts (members s g)
  pub called : x.called ≡ sum_by (callee_parts s) (callees s g)
  pub sites : length x.sites ≡ length (callees s g)
  pub few : length x.sites < 2 ^ 32
  pub each : (site : ℕ) (y : SiteShape) → slice_get x.sites site ≡ Some y → IsSiteShape s g site y

-- by group, and last of the root
pub record AreGroupTables (s : System) (xs : List GroupTable) : Type 0 where
  pub size : length xs ≡ suc (root s)
  pub few : root s < 2 ^ 32
  pub each : (g : ℕ) (x : GroupTable) → slice_get xs g ≡ Some x → IsGroupTable s g x

pub record AreTables (s : System) (pointers : ℕ) (ps : List ProcShape) (xs : List GroupTable) : Type 0 where
  pub fields : pointers ≡ s.fields
  pub procs : AreProcShapes s ps
  pub groups : AreGroupTables s xs

-- called groups stand below and hold whom a site calls, and numbers are small
pub record KeepsShape (s : System) : Type 0 where
  pub below : (g site : ℕ) → site < length (callees s g) → (callee s g site).group < g
  pub inside : (g site : ℕ) → site < length (callees s g) → (callee s g site).group < root s
  pub held : (g site : ℕ) → site < length (callees s g) → is_in (members s (callee s g site).group) (callee s g site).proc ≡ true
  pub groups : root s < 2 ^ 32
  pub small : (g : ℕ) → g ≤ root s → count s g < 2 ^ 31
  pub few : (g : ℕ) → g ≤ root s → length (callees s g) < 2 ^ 32
