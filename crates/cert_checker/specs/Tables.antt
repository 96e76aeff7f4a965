-- The clauses of a group, and the parts of a certificate, as the checker reads them.
use Rattle.std.specs.Prelude.{◌≡◌, ℕ, suc, ◌+◌, ◌-◌, ◌<◌, ◌≤◌, Bool, true, false, cond, List, [], ◌∷◌, ◌++◌, length, take, drop, map, replicate, max, sum_by, slice_get, slice_index, slice_index_or, nat_le, if◌then◌else◌, Option, Some, None}
use Rattle.std.specs.List.{Contains, flat_map}
use Rattle.zo_core.specs.Literals.{Literal}
use Rattle.zo_core.specs.Truth.{clause_true}
use Rattle.conflict_proof.specs.declared.names.ConstraintName.{ConstraintName}
use Rattle.own_cert.specs.declared.certificate.PlaceBits.{PlaceBits}
use Rattle.own_cert.specs.declared.certificate.Instance.{Instance}
use Rattle.own_cert.specs.declared.certificate.Certificate.{Certificate}
use Rattle.transfer_rules.specs.Names.{NamedClause, named_clause}
use Rattle.transfer_rules.specs.Table.{no_clause}
use Rattle.verdict_meaning.specs.declared.callee.Callee.{Callee}
use Rattle.verdict_meaning.specs.Systems.{System, members, callees, callee, callee_parts}
use Rattle.verdict_meaning.specs.Solutions.{counts}
use Rattle.verdict_meaning.specs.Certificates.{Spot, face_of, site_bits, bits_at_places}
use Rattle.verdict_meaning.specs.CertificateFaults.{phi_line, instance_line, greatest}

-- The clauses of a group

-- those of one constraint, where it counts
abbrev pub clauses_if : System → (ConstraintName → Bool) → ℕ → ConstraintName → List NamedClause
clauses_if s U g name = cond (counts U name) (map (named_clause name) (s.clauses g name)) []

-- those of all these constraints that count, in their order, each with its name
abbrev pub table_of : System → (ConstraintName → Bool) → ℕ → List ConstraintName → List NamedClause
table_of s U g names = flat_map (clauses_if s U g) names

-- the clause of this number, from 0
abbrev pub row : List NamedClause → ℕ → NamedClause
row rows k = slice_index_or rows k no_clause

-- these clauses have one name, and the one after them has another
pub record IsRunEnd (rows : List NamedClause) (a b : ℕ) : Type 0 where
  pub some : a < b
  pub within : b ≤ length rows
  pub same : (k : ℕ) → a ≤ k → k < b → (row rows k).name ≡ (row rows a).name
  pub after : b < length rows → (row rows b).name ≡ (row rows a).name → ⊥

-- the one before them has another too
pub record IsRun (rows : List NamedClause) (a b : ℕ) : Type 0 where
  pub end : IsRunEnd rows a b
  pub before : (k : ℕ) → k + 1 ≡ a → (row rows k).name ≡ (row rows a).name → ⊥

-- one of these clauses is false
pub record HasFalse (rows : List NamedClause) (value : ℕ → Bool) (a b : ℕ) : Type 0 where
  pub number : ℕ
  pub from : a ≤ number
  pub below : number < b
  pub off : clause_true value (row rows number).lits ≡ false

-- the greatest line of the unknowns of a clause
abbrev pub clause_line : (ℕ → ℕ) → List Literal → ℕ
clause_line line lits = greatest (map (λ (l : Literal). line l.var) lits)

-- the same of the clauses from a to before b
abbrev pub run_line : (ℕ → ℕ) → List NamedClause → ℕ → ℕ → ℕ
run_line line rows a b = greatest (map (λ (r : NamedClause). clause_line line r.lits) (take (b - a) (drop a rows)))

-- a constraint with a false clause, whose last unknown stands on this line
pub record IsFalseRun (rows : List NamedClause) (value : ℕ → Bool) (line : ℕ → ℕ) (at : ℕ) : Type 0 where
  pub from : ℕ
  pub to : ℕ
  pub run : IsRun rows from to
  pub off : HasFalse rows value from to
  pub is : at ≡ run_line line rows from to

-- The constraints of a group, place by place

-- one of these places has a constraint with a false clause, whose last unknown stands on this line
pub record IsFalseAmong (s : System) (U : ConstraintName → Bool) (g : ℕ) (names : Spot → List ConstraintName) (places : List Spot) (value : ℕ → Bool) (line : ℕ → ℕ) (at : ℕ) : Type 0 where
  pub spot : Spot
  pub among : Contains places spot
  pub run : IsFalseRun (table_of s U g (names spot)) value line at

-- Lines

-- the first lines of all instances, and the last line of the text
pub record AreStarts (is : List Instance) (starts : List ℕ) : Type 0 where
  pub count : length starts ≡ length is + 1
  pub each : (n : ℕ) → n ≤ length is → slice_index starts n ≡ instance_line is n

-- the lines of the unknowns of places, the first of which is on this line
abbrev pub place_lines : (Spot → ℕ) → ℕ → List Spot → List ℕ
place_lines width first [] = []
place_lines width first (p ∷ ps) = replicate (width p) first ++ place_lines width (suc first) ps

-- the lines of all unknowns of an instance but those of fields, where its first line is this one
abbrev pub unknown_lines : System → ℕ → ℕ → List Spot → List ℕ
unknown_lines s g first spots =
    replicate (sum_by s.parts (members s g)) (first + 1)
    ++ (replicate (sum_by (callee_parts s) (callees s g)) (first + 2) ++ place_lines (λ (p : Spot). s.width p.proc) (first + 3) spots)

-- the line of an unknown, where so many stand on the line of fields, the others on these lines, and later ones on the line after
abbrev pub line_in : ℕ → List ℕ → ℕ → ℕ → ℕ
line_in fields lines after u = if nat_le u fields then phi_line else slice_index_or lines (u - fields - 1) after

-- Bits

-- a site names an earlier instance, which is entered through a member of its group that is the called procedure
pub record Enters (s : System) (is : List Instance) (c : Callee) (m : ℕ) : Type 0 where
  pub instance : Instance
  pub there : slice_get is m ≡ Some instance
  pub entry : instance.entry ≡ c.proc
  pub exists : instance.group < length s.groups
  pub member : Contains (members s instance.group) instance.entry

-- each site of an instance does
pub record AllEnter (s : System) (is : List Instance) (i : Instance) : Type 0 where
  pub count : length i.sites ≡ length (callees s i.group)
  pub each : (k m : ℕ) → slice_get i.sites k ≡ Some m → Enters s is (callee s i.group k) m

-- the bits of an instance besides those of fields: all of them, or those of its interface alone
abbrev pub bits_up_to : Bool → System → List Instance → Instance → List Bool
bits_up_to whole s is i = cond whole (i.iface ++ (site_bits s is (callees s i.group) i.sites ++ bits_at_places i.places)) i.iface

-- what tells an instance from others: its group, its entry and the entry's interface
abbrev pub key_bit : Bool → ℕ
key_bit b = cond b 1 0

abbrev pub key_of : System → Instance → List ℕ
key_of s i = i.group ∷ i.entry ∷ map key_bit (face_of s i i.entry)
