-- What the parts of the checker find: the first line of some kind of fault, below a bound.
use Rattle.std.specs.Prelude.{◌≡◌, ℕ, ◌+◌, ◌<◌, ◌≤◌, ◌≢◌, ◌⊎◌, ⊤, Bool, true, false, sum_by, List, length, slice_get, slice_index_or, nat_le, if◌then◌else◌, Option, Some, None}
use Rattle.std.specs.List.{Contains}
use Rattle.zo_core.specs.Truth.{all_true}
use Rattle.conflict_proof.specs.declared.names.ConstraintName.{ConstraintName}
use Rattle.own_cert.specs.declared.certificate.PlaceBits.{PlaceBits}
use Rattle.own_cert.specs.declared.certificate.Instance.{Instance}
use Rattle.own_cert.specs.declared.certificate.Certificate.{Certificate}
use Rattle.verdict_meaning.specs.Systems.{System, root, members, callee, callees, names_of}
use Rattle.verdict_meaning.specs.Solutions.{counts}
use Rattle.verdict_meaning.specs.Certificates.{spots, spot_of, assignment_of, IsSite, IsInstanceOf}
use Rattle.verdict_meaning.specs.CertificateFaults.{line_of, last_line}

-- the line is before the bound, where there is one
abbrev pub IsBelow : Option ℕ → ℕ → Type 0
IsBelow None line = ⊤
IsBelow (Some bound) line = line < bound

-- the line has such a fault, none is before it, and it is before the bound
pub record IsFirstAt (bound : Option ℕ) (P : ℕ → Type 0) (line : ℕ) : Type 0 where
  pub is : P line
  pub below : IsBelow bound line
  pub first : (other : ℕ) → P other → line ≤ other

-- the first line before the bound with such a fault, none where there is none
abbrev pub IsFirstBelow : Option ℕ → (ℕ → Type 0) → Option ℕ → Type 0
IsFirstBelow bound P None = (line : ℕ) → P line → IsBelow bound line → ⊥
IsFirstBelow bound P (Some line) = IsFirstAt bound P line

-- no line before the bound has such a fault
abbrev pub IsCleanBelow : Option ℕ → (ℕ → Type 0) → Type 0
IsCleanBelow bound P = (line : ℕ) → P line → IsBelow bound line → ⊥

-- row k is not that of the place due, or has a wrong number of bits
pub data IsWrongRow (s : System) (g : ℕ) (rows : List PlaceBits) (k : ℕ) : Type 0 where
  place : (row : PlaceBits) → slice_get rows k ≡ Some row → slice_get (spots s g) k ≢ Some (spot_of row) → IsWrongRow s g rows k
  width : (row : PlaceBits) → slice_get rows k ≡ Some row → length row.bits ≢ s.width row.proc → IsWrongRow s g rows k

-- the rows have a fault at this one, or a row is missing after the last
pub data RowsFault (s : System) (g : ℕ) (rows : List PlaceBits) : ℕ → Type 0 where
  wrong : (k : ℕ) → IsWrongRow s g rows k → RowsFault s g rows k
  missing : length rows < length (spots s g) → RowsFault s g rows (length rows)

-- an instance has a wrong shape on this line, counted from its first
pub data ShapeFault (s : System) (i : Instance) : ℕ → Type 0 where
  group : root s ≤ i.group → ShapeFault s i 0
  entry : (Contains (members s i.group) i.entry → ⊥) → ShapeFault s i 0
  iface : length i.iface ≢ sum_by s.parts (members s i.group) → ShapeFault s i 1
  count : length i.sites ≢ length (callees s i.group) → ShapeFault s i 2
  rows : (k : ℕ) → RowsFault s i.group i.places k → ShapeFault s i (k + 3)

-- the instance of these parts
abbrev pub instance_of : ℕ → ℕ → List Bool → List ℕ → List PlaceBits → Instance
instance_of g e face numbers bits = record { group = g; entry = e; iface = face; sites = numbers; places = bits }

-- a site of instance n does not name an earlier instance which is entered through the called procedure
pub record HasWrongSite (s : System) (is : List Instance) (n : ℕ) : Type 0 where
  pub instance : Instance
  pub there : slice_get is n ≡ Some instance
  pub site : ℕ
  pub number : ℕ
  pub names : slice_get instance.sites site ≡ Some number
  pub wrong : IsSite s is n (callee s instance.group site) number → ⊥

-- a constraint is false in instance n, and its last unknown stands on this line
pub record IsBrokenIn (s : System) (U : ConstraintName → Bool) (c : Certificate) (n : ℕ) (line : ℕ) : Type 0 where
  pub instance : Instance
  pub there : slice_get c.instances n ≡ Some instance
  pub group : instance.group < root s
  pub name : ConstraintName
  pub among : Contains (names_of s instance.group) name
  pub counting : counts U name ≡ true
  pub off : all_true (assignment_of s c instance) (s.clauses instance.group name) ≡ false
  pub is : line ≡ last_line s c n instance.group name

-- what is read of instance n: the line of each unknown, and the bit of each that stands before the bound
pub record AreMarksOf (s : System) (c : Certificate) (n : ℕ) (i : Instance) (bound : Option ℕ) (value : ℕ → Bool) (line : ℕ → ℕ) : Type 0 where
  pub lines : (u : ℕ) → line u ≡ line_of s c n i.group u
  pub values : (u : ℕ) → IsBelow bound (line u) → value u ≡ assignment_of s c i u

-- the line is before both bounds and is the answer, or it is not before one of them
abbrev pub IsEarlier : Option ℕ → Option ℕ → ℕ → Option ℕ → Type 0
IsEarlier found bound line answer = (IsBelow bound line × (IsBelow found line × (answer ≡ Some line))) ⊎ ((IsBelow bound line → IsBelow found line → ⊥) × (answer ≡ found))

-- the earlier of two lines
abbrev pub earliest : Option ℕ → Option ℕ → Option ℕ
earliest None other = other
earliest (Some line) None = Some line
earliest (Some line) (Some other) = if nat_le line other then Some line else Some other

-- there is no such group, or one of it was seen and this one is not before the bound
abbrev pub IsLeftOut : List Bool → ℕ → Bool → Type 0
IsLeftOut seen g below = (length seen ≤ g) ⊎ ((below ≡ false) × (g < length seen) × (slice_index_or seen g false ≡ true))

-- there is such a group, and one of it was not seen or this one is before the bound
abbrev pub IsTaken : List Bool → ℕ → Bool → Type 0
IsTaken seen g below = (g < length seen) × ((below ≡ true) ⊎ (slice_index_or seen g false ≡ false))

-- some group has no instance
pub record IsGroupMissing (s : System) (is : List Instance) : Type 0 where
  pub group : ℕ
  pub exists : group < root s
  pub never : IsInstanceOf is group → ⊥
