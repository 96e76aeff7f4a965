-- The faults of a certificate, by the lines of its text that has a line for each place.
use Rattle.std.specs.Prelude.{sum_by, ◌≡◌, ◌≢◌, ℕ, ◌+◌, ◌-◌, ◌<◌, ◌≤◌, ◌⊎◌, Bool, true, false, List, [], ◌∷◌, Some, length, take, map, max, nat_le, slice_get, if◌then◌else◌}
use Rattle.std.specs.List.{Contains, flat_map}
use Rattle.zo_core.specs.Literals.{Literal}
use Rattle.zo_core.specs.Truth.{all_true}
use Rattle.conflict_proof.specs.declared.names.ConstraintName.{ConstraintName}
use Rattle.conflict_proof.specs.declared.faults.Reason.{Reason}
use Rattle.conflict_proof.specs.declared.faults.Reason.TheVariants as reason
use Rattle.conflict_proof.specs.declared.faults.BadLine.{BadLine}
use Rattle.own_cert.specs.declared.certificate.PlaceBits.{PlaceBits}
use Rattle.own_cert.specs.declared.certificate.Instance.{Instance}
use Rattle.own_cert.specs.declared.certificate.Certificate.{Certificate}
use Rattle.verdict_meaning.specs.Systems.{System, root, members, callee, callees, callee_parts, names_of}
use Rattle.verdict_meaning.specs.Solutions.{counts}
use Rattle.verdict_meaning.specs.Certificates.{Spot, spots, spot_of, assignment_of, IsSite, Agree, IsInstanceOf}

-- Lines, numbered from 1: the header, phi, then for each instance its own line, its interface, its sites and its places,
-- and the end

-- the line of phi
abbrev pub phi_line : ℕ
phi_line = 2

-- how many lines an instance has
abbrev pub lines_of : Instance → ℕ
lines_of i = 3 + length i.places

-- the line of instance n; of the one after the last, the line of the end
abbrev pub instance_line : List Instance → ℕ → ℕ
instance_line is n = 3 + sum_by lines_of (take n is)

-- the line of its interface
abbrev pub iface_line : List Instance → ℕ → ℕ
iface_line is n = instance_line is n + 1

-- the line of its sites
abbrev pub sites_line : List Instance → ℕ → ℕ
sites_line is n = instance_line is n + 2

-- the line of place k of instance n, from 0
abbrev pub place_line : List Instance → ℕ → ℕ → ℕ
place_line is n k = instance_line is n + 3 + k

-- the last line
abbrev pub end_line : List Instance → ℕ
end_line is = instance_line is (length is)

-- The line on which an unknown of an instance stands

-- among places with so many unknowns each, the number of that of the unknown u, which are numbered from 1
abbrev pub place_of : (Spot → ℕ) → List Spot → ℕ → ℕ
place_of width [] u = 0
place_of width (p ∷ ps) u = if nat_le u (width p) then 0 else place_of width ps (u - width p) + 1

-- the line of an unknown of instance n, which is of group g: that of phi, of the interface or of the sites, or else of its place
abbrev pub line_of : System → Certificate → ℕ → ℕ → ℕ → ℕ
line_of s c n g u =
    let ifaces = s.fields + sum_by s.parts (members s g) in
    let sites = ifaces + sum_by (callee_parts s) (callees s g) in
    if nat_le u s.fields then phi_line
    else if nat_le u ifaces then iface_line c.instances n
    else if nat_le u sites then sites_line c.instances n
    else place_line c.instances n (place_of (λ p. s.width p.proc) (spots s g) (u - sites))

-- the unknowns of a constraint
abbrev pub unknowns_of : System → ℕ → ConstraintName → List ℕ
unknowns_of s g name = flat_map (map (λ (l : Literal). l.var)) (s.clauses g name)

-- the greatest of these numbers
abbrev pub greatest : List ℕ → ℕ
greatest [] = 0
greatest (n ∷ ns) = max n (greatest ns)

-- the first line up to which all unknowns of a constraint stand
abbrev pub last_line : System → Certificate → ℕ → ℕ → ConstraintName → ℕ
last_line s c n g name = greatest (map (line_of s c n g) (unknowns_of s g name))

-- Faults

-- the certificate has a fault with this reason at this line; the constraints are those that count
pub data HasFault (s : System) (U : ConstraintName → Bool) (c : Certificate) : Reason → ℕ → Type 0 where
  -- a wrong number of bits of phi
  phi : length c.phi ≢ s.fields → HasFault s U c reason.Range phi_line
  -- a group that does not exist
  group : (n : ℕ) (i : Instance) → slice_get c.instances n ≡ Some i → root s ≤ i.group → HasFault s U c reason.Range (instance_line c.instances n)
  -- an entry that is not in its group
  entry : (n : ℕ) (i : Instance) → slice_get c.instances n ≡ Some i → (Contains (members s i.group) i.entry → ⊥)
      → HasFault s U c reason.Range (instance_line c.instances n)
  -- a wrong number of bits of an interface
  iface : (n : ℕ) (i : Instance) → slice_get c.instances n ≡ Some i → length i.iface ≢ sum_by s.parts (members s i.group)
      → HasFault s U c reason.Range (iface_line c.instances n)
  -- a wrong number of sites
  count : (n : ℕ) (i : Instance) → slice_get c.instances n ≡ Some i → length i.sites ≢ length (callees s i.group)
      → HasFault s U c reason.Range (sites_line c.instances n)
  -- a place that is not the next one due
  place : (n k : ℕ) (i : Instance) (row : PlaceBits) → slice_get c.instances n ≡ Some i → slice_get i.places k ≡ Some row
      → slice_get (spots s i.group) k ≢ Some (spot_of row) → HasFault s U c reason.Range (place_line c.instances n k)
  -- a wrong number of bits of a place
  width : (n k : ℕ) (i : Instance) (row : PlaceBits) → slice_get c.instances n ≡ Some i → slice_get i.places k ≡ Some row
      → length row.bits ≢ s.width row.proc → HasFault s U c reason.Range (place_line c.instances n k)
  -- a missing place: the line after the instance's last one
  missing_place : (n : ℕ) (i : Instance) → slice_get c.instances n ≡ Some i → length i.places < length (spots s i.group)
      → HasFault s U c reason.Range (instance_line c.instances (n + 1))
  -- two instances that agree: the interface of the later one
  twice : (n m : ℕ) (i j : Instance) → n < m → slice_get c.instances n ≡ Some i → slice_get c.instances m ≡ Some j → Agree s i j
      → HasFault s U c reason.Twice (iface_line c.instances m)
  -- a site that does not name an earlier instance which is entered through the called procedure
  site : (n k m : ℕ) (i : Instance) → slice_get c.instances n ≡ Some i → slice_get i.sites k ≡ Some m
      → (IsSite s c.instances n (callee s i.group k) m → ⊥) → HasFault s U c reason.Site (sites_line c.instances n)
  -- a false constraint
  broken : (n : ℕ) (i : Instance) (name : ConstraintName) → slice_get c.instances n ≡ Some i → i.group < root s
      → Contains (names_of s i.group) name → counts U name ≡ true → all_true (assignment_of s c i) (s.clauses i.group name) ≡ false
      → HasFault s U c reason.Broken (last_line s c n i.group name)
  -- a group without an instance
  missing_group : (g : ℕ) → g < root s → (IsInstanceOf c.instances g → ⊥) → HasFault s U c reason.Missing (end_line c.instances)

-- on one line the reasons come in this order
abbrev pub rank : Reason → ℕ
rank reason.Range = 0
rank reason.Twice = 1
rank reason.Site = 2
rank reason.Broken = 3
rank _ = 4

-- a fault at this line for this reason, and none at an earlier line or at this one for a reason that comes before it
pub record IsFirstFault (s : System) (U : ConstraintName → Bool) (c : Certificate) (bad : BadLine) : Type 0 where
  pub fault : HasFault s U c bad.reason bad.line
  pub first : (why : Reason) (line : ℕ) → HasFault s U c why line → (bad.line < line) ⊎ ((bad.line ≡ line) × (rank bad.reason ≤ rank why))
