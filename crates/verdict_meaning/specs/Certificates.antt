-- What a good certificate is.
use Rattle.std.specs.Prelude.{sum_by, ◌≡◌, ℕ, zero, suc, ◌<◌, ◌⊎◌, Bool, false, List, [], ◌∷◌, ◌++◌, Option, Some, None, length, take, drop, map, slice_get, slice_index_or}
use Rattle.std.specs.List.{range_with_len, Contains, flat_map, All}
use Rattle.conflict_proof.specs.declared.names.ConstraintName.{ConstraintName}
use Rattle.own_cert.specs.declared.certificate.PlaceBits.{PlaceBits}
use Rattle.own_cert.specs.declared.certificate.Instance.{Instance}
use Rattle.own_cert.specs.declared.certificate.Certificate.{Certificate}
use Rattle.verdict_meaning.specs.declared.callee.Callee.{Callee}
use Rattle.verdict_meaning.specs.Systems.{System, root, members, callee, callees, parts_before}
use Rattle.verdict_meaning.specs.Solutions.{IsLocal, all_names}

-- the interface of a member, of the interfaces of all members one after another
abbrev pub part_of : System → ℕ → List Bool → ℕ → List Bool
part_of s g iface k = take (s.parts k) (drop (parts_before s k (members s g)) iface)

-- the interface of a procedure in an instance of its group
abbrev pub face_of : System → Instance → ℕ → List Bool
face_of s i k = part_of s i.group i.iface k

-- the same where there is an instance, and no bits where there is none
abbrev pub face_in : System → Option Instance → ℕ → List Bool
face_in s o k = elim o [ None ↦ [] | Some i ↦ face_of s i k ]

-- at the sites that call these, the interfaces of the called procedures in the instances of these numbers
abbrev pub site_bits : System → List Instance → List Callee → List ℕ → List Bool
site_bits s is [] ns = []
site_bits s is (c ∷ cs) [] = []
site_bits s is (c ∷ cs) (n ∷ ns) = face_in s (slice_get is n) c.proc ++ site_bits s is cs ns

-- the bits of all places, one after another
abbrev pub bits_at_places : List PlaceBits → List Bool
bits_at_places rows = flat_map (λ (r : PlaceBits). r.bits) rows

-- what an instance says of its group's unknowns, in the order of their numbers
abbrev pub bits_of : System → Certificate → Instance → List Bool
bits_of s c i = c.phi ++ (i.iface ++ (site_bits s c.instances (callees s i.group) i.sites ++ bits_at_places i.places))

-- the bit of an unknown, which are numbered from 1
abbrev pub bit_at : List Bool → ℕ → Bool
bit_at bs zero = false
bit_at bs (suc n) = slice_index_or bs n false

-- the assignment that an instance is
abbrev pub assignment_of : System → Certificate → Instance → ℕ → Bool
assignment_of s c i = bit_at (bits_of s c i)

-- a procedure and one of its places
pub record Spot : Type 0 where
  pub proc : ℕ
  pub place : ℕ

-- the places of a procedure
abbrev pub spots_of : System → ℕ → List Spot
spots_of s k = map (λ q. record { proc = k; place = q }) (range_with_len 0 (s.places k))

-- the places of a group: member by member, in order
abbrev pub spots : System → ℕ → List Spot
spots s g = flat_map (spots_of s) (members s g)

-- where a row stands
abbrev pub spot_of : PlaceBits → Spot
spot_of row = record { proc = row.proc; place = row.place }

-- the rows are those of the group's places, in order, each with a bit for each of its unknowns
pub record AreRows (s : System) (g : ℕ) (rows : List PlaceBits) : Type 0 where
  pub places : map spot_of rows ≡ spots s g
  pub widths : All (λ (r : PlaceBits). length r.bits ≡ s.width r.proc) rows

-- a site names an earlier instance, which is entered through the called procedure
pub record IsSite (s : System) (is : List Instance) (n : ℕ) (c : Callee) (m : ℕ) : Type 0 where
  pub earlier : m < n
  pub instance : Instance
  pub there : slice_get is m ≡ Some instance
  pub group : instance.group ≡ c.group
  pub entry : instance.entry ≡ c.proc

-- instance n of a certificate has the shapes of its group, its sites name earlier instances, and its assignment meets
-- the constraints that count
pub record IsGoodInstance (s : System) (U : ConstraintName → Bool) (c : Certificate) (n : ℕ) (i : Instance) : Type 0 where
  pub group : i.group < root s
  pub entry : Contains (members s i.group) i.entry
  pub iface : length i.iface ≡ sum_by s.parts (members s i.group)
  pub count : length i.sites ≡ length (callees s i.group)
  pub rows : AreRows s i.group i.places
  pub sites : (site m : ℕ) → slice_get i.sites site ≡ Some m → IsSite s c.instances n (callee s i.group site) m
  pub local : IsLocal s U i.group (assignment_of s c i)

-- two instances of one certificate that agree in group, entry and the entry's interface
pub record Agree (s : System) (i j : Instance) : Type 0 where
  pub group : i.group ≡ j.group
  pub entry : i.entry ≡ j.entry
  pub face : face_of s i i.entry ≡ face_of s j j.entry

-- some instance is of the group
pub record IsInstanceOf (is : List Instance) (g : ℕ) : Type 0 where
  pub number : ℕ
  pub instance : Instance
  pub there : slice_get is number ≡ Some instance
  pub group : instance.group ≡ g

-- the certificate is good, with the constraints that count: phi has a bit for each field, each instance is good, no two
-- agree, and every group has one
pub record IsGoodIn (s : System) (U : ConstraintName → Bool) (c : Certificate) : Type 0 where
  pub phi : length c.phi ≡ s.fields
  pub each : (n : ℕ) (i : Instance) → slice_get c.instances n ≡ Some i → IsGoodInstance s U c n i
  pub apart : (n m : ℕ) (i j : Instance) → slice_get c.instances n ≡ Some i → slice_get c.instances m ≡ Some j → Agree s i j → n ≡ m
  pub all : (g : ℕ) → g < root s → IsInstanceOf c.instances g

-- good with all constraints
abbrev pub IsGoodCertificate : System → Certificate → Type 0
IsGoodCertificate s c = IsGoodIn s all_names c

-- some site of a certificate names instance m
pub record IsNamed (c : Certificate) (m : ℕ) : Type 0 where
  pub number : ℕ
  pub instance : Instance
  pub there : slice_get c.instances number ≡ Some instance
  pub site : Contains instance.sites m

-- besides one instance for each group there are only those that a site names
pub record HasNoNeedless (s : System) (c : Certificate) : Type 0 where
  pub one : ℕ → ℕ
  pub each : (n : ℕ) (i : Instance) → slice_get c.instances n ≡ Some i → (n ≡ one i.group) ⊎ IsNamed c n
