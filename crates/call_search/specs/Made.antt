-- The certificate that is made of a solution.
use Rattle.std.specs.Prelude.{sum_by}
use Rattle.std.specs.Prelude.{◌≡◌, ℕ, ◌+◌, ◌*◌, map, Bool, List, [], ◌∷◌, ◌++◌, Some, length, take, drop, slice_get}
use Rattle.std.specs.List.{range_with_len}
use Rattle.own_cert.specs.declared.certificate.PlaceBits.{PlaceBits}
use Rattle.own_cert.specs.declared.certificate.Instance.{Instance}
use Rattle.own_cert.specs.declared.certificate.Certificate.{Certificate}
use Rattle.verdict_meaning.specs.declared.callee.Callee.{Callee}
use Rattle.verdict_meaning.specs.Systems.{System, members, callee, callees, callee_parts, place_count}
use Rattle.verdict_meaning.specs.Solutions.{phi_by, sigma_by}
use Rattle.verdict_meaning.specs.Certificates.{bit_at, bits_at_places, AreRows}
use Rattle.call_search.specs.declared.entries.Entry.{Entry}
use Rattle.call_search.specs.Entries.{Answers, in_group, AreSized, AreDown}

-- the instances of all groups, one group after another
abbrev pub all_of : List (List Entry) → List Entry
all_of [] = []
all_of (es ∷ t) = es ++ all_of t

-- how many instances the groups before one have
abbrev pub before_group : List (List Entry) → ℕ → ℕ
before_group t g = length (all_of (take g t))

-- instance m of the table is of this procedure with this interface
pub record IsNumberOf (s : System) (t : List (List Entry)) (c : Callee) (face : List Bool) (m : ℕ) : Type 0 where
  pub entry : Entry
  pub there : slice_get (all_of t) m ≡ Some entry
  pub answers : Answers s entry c face

-- these are the numbers of the instances for which the first sites of a group ask by its bits
pub record AreSiteNumbers (s : System) (t : List (List Entry)) (g : ℕ) (bits : List Bool) (ns : List ℕ) (upto : ℕ) : Type 0 where
  pub count : length ns ≡ upto
  pub each : (site m : ℕ) → slice_get ns site ≡ Some m → IsNumberOf s t (callee s g site) (sigma_by s g (bit_at bits) site) m

-- the numbers before which the instances of each group stand
pub record AreBases (t : List (List Entry)) (ns : List ℕ) (upto : ℕ) : Type 0 where
  pub count : length ns ≡ upto
  pub each : (g m : ℕ) → slice_get ns g ≡ Some m → m ≡ before_group t g

-- the bits at a place of a procedure, whose places begin at a bit and have so many unknowns each
abbrev pub row_at : List Bool → ℕ → ℕ → ℕ → ℕ → PlaceBits
row_at bits from width k q = record { proc = k; place = q; bits = take width (drop (from + q * width) bits) }

-- those of all its places
abbrev pub rows_of : System → List Bool → ℕ → ℕ → List PlaceBits
rows_of s bits from k = map (row_at bits from (s.width k) k) (range_with_len 0 (s.places k))

-- those of procedures, one after another
abbrev pub rows_from : System → List Bool → ℕ → List ℕ → List PlaceBits
rows_from s bits from [] = []
rows_from s bits from (k ∷ ks) = rows_of s bits from k ++ rows_from s bits (from + place_count s k) ks

-- an instance of a certificate that is one of the table
pub record IsMadeOf (s : System) (t : List (List Entry)) (e : Entry) (i : Instance) : Type 0 where
  pub group : i.group ≡ e.group
  pub entry : i.entry ≡ e.proc
  pub iface : i.iface ≡ take (sum_by s.parts (members s e.group)) (drop s.fields e.bits)
  pub sites : AreSiteNumbers s t e.group e.bits i.sites (length (callees s e.group))
  pub rows : AreRows s e.group i.places
  pub bits : bits_at_places i.places ≡ drop (s.fields + sum_by s.parts (members s e.group) + sum_by (callee_parts s) (callees s e.group)) e.bits

-- each instance is of a procedure of its group, and has what it asks for
pub record IsComplete (s : System) (t : List (List Entry)) : Type 0 where
  pub sized : AreSized s t
  pub group : (g n : ℕ) (e : Entry) → slice_get (in_group t g) n ≡ Some e → e.group ≡ g
  pub answered : AreDown s t 0

-- the instances are those of these entries
pub record AreMadeOf (s : System) (t : List (List Entry)) (es : List Entry) (is : List Instance) : Type 0 where
  pub count : length is ≡ length es
  pub each : (n : ℕ) (e : Entry) (i : Instance) → slice_get es n ≡ Some e → slice_get is n ≡ Some i → IsMadeOf s t e i

-- a certificate whose instances are those of the table, in this order
pub record IsMade (s : System) (top : List Bool) (t : List (List Entry)) (c : Certificate) : Type 0 where
  pub phi : c.phi ≡ phi_by s (bit_at top)
  pub instances : AreMadeOf s t (all_of t) c.instances
