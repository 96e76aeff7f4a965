-- Instances that propagation alone makes, from the highest group down.
use Rattle.std.specs.Prelude.{◌≡◌, ℕ, ◌<◌, ◌≤◌, ◌⊎◌, Bool, true, List, [], ◌++◌, length, map, Some, slice_get}
use Rattle.std.specs.List.{All, Contains}
use Rattle.std.specs.List.Sorted.{IsStrictlySortedBy}
use Rattle.zo_core.specs.Literals.{Literal}
use Rattle.zo_core.specs.Truth.{clause_true}
use Rattle.conflict_proof.specs.declared.names.ConstraintName.{ConstraintName}
use Rattle.transfer_rules.specs.Names.{NamedClause}
use Rattle.verdict_meaning.specs.declared.callee.Callee.{Callee}
use Rattle.verdict_meaning.specs.Systems.{System, root, callee, callees, count, phi_numbers, pi_numbers}
use Rattle.verdict_meaning.specs.Solutions.{IsLocal, phi_by, pi_by, sigma_by}
use Rattle.verdict_meaning.specs.Certificates.{bit_at}
use Rattle.verdict_meaning.specs.Plain.{said, IsLeast, PlainIn, IsPlainSat}
use Rattle.call_search.specs.declared.entries.Entry.{Entry}
use Rattle.call_search.specs.Shapes.{IsThere}
use Rattle.call_search.specs.Entries.{in_group, at_entry, own_face, IsAnswered}
use Rattle.plain_answers.specs.declared.wants.Want.{Want}
use Rattle.plain_answers.specs.Orders.{want_order}
use Rattle.plain_answers.specs.Wants.{wants_in, asked, Asks}

-- literals of the first n unknowns, which are numbered from 1
abbrev pub AreOfGroup : ℕ → List Literal → Type 0
AreOfGroup n ls = All (λ (l : Literal). (0 < l.var) × (l.var ≤ n)) ls

abbrev pub IsOfGroup : ℕ → NamedClause → Type 0
IsOfGroup n row = AreOfGroup n row.lits

-- the assignment makes each clause of a table true
abbrev pub AreTrue : (ℕ → Bool) → List NamedClause → Type 0
AreTrue a rows = (k : ℕ) (row : NamedClause) → slice_get rows k ≡ Some row → clause_true a row.lits ≡ true

-- fields own as phi says, and a procedure has this interface
pub record IsFitting (s : System) (phi : List Bool) (c : Callee) (face bits : List Bool) : Type 0 where
  pub phi_is : phi_by s (bit_at bits) ≡ phi
  pub face_is : pi_by s c.group (bit_at bits) c.proc ≡ face

-- the least assignment of a group where fields own as phi says and a procedure has an interface says so, and meets the
-- group's constraints
pub record IsRight (s : System) (U : ConstraintName → Bool) (phi : List Bool) (c : Callee) (face bits : List Bool) : Type 0 where
  pub size : length bits ≡ count s c.group
  pub least : IsLeast s U c.group (said (phi_numbers s) phi ++ said (pi_numbers s c.group c.proc) face) (bit_at bits)
  pub fits : IsFitting s phi c face bits
  pub local : IsLocal s U c.group (bit_at bits)

-- it can be asked of a group: a member, with an interface of its size
pub record IsAskable (s : System) (g : ℕ) (q : Want) : Type 0 where
  pub there : IsThere s (record { proc = q.proc; group = g })
  pub size : length q.face ≡ s.parts q.proc

-- the instance of what is asked of a group
pub record IsEntryOf (s : System) (U : ConstraintName → Bool) (phi : List Bool) (g : ℕ) (q : Want) (e : Entry) : Type 0 where
  pub group : e.group ≡ g
  pub proc : e.proc ≡ q.proc
  pub right : IsRight s U phi (record { proc = q.proc; group = g }) q.face e.bits

-- something of what is asked of a group is not plain
pub record HasUnplain (s : System) (U : ConstraintName → Bool) (phi : List Bool) (g : ℕ) (wants : List Want) : Type 0 where
  pub want : Want
  pub there : Contains wants want
  pub not_plain : PlainIn s U phi g want.proc want.face → ⊥

-- the instances of what is asked of a group, in its order
pub record AreEntries (s : System) (U : ConstraintName → Bool) (phi : List Bool) (g : ℕ) (wants : List Want) (es : List Entry) : Type 0 where
  pub count_is : length es ≡ length wants
  pub each : (n : ℕ) (q : Want) (e : Entry) → slice_get wants n ≡ Some q → slice_get es n ≡ Some e → IsEntryOf s U phi g q e

-- what the sites of instances of a group ask for was added, and nothing else
pub record AreAllAsked (s : System) (g : ℕ) (es : List Entry) (old new : List (List Want)) : Type 0 where
  pub size : length new ≡ length old
  pub kept : (h : ℕ) (q : Want) → Contains (wants_in old h) q → Contains (wants_in new h) q
  pub there : (n : ℕ) (e : Entry) (site : ℕ) → slice_get es n ≡ Some e → site < length (callees s g)
      → Contains (wants_in new (callee s g site).group) (asked s g e.bits site)
  pub from : (h : ℕ) (q : Want) → Contains (wants_in new h) q
      → Contains (wants_in old h) q ⊎ ((n : ℕ) × (e : Entry) × (slice_get es n ≡ Some e) × Asks s g e.bits (length (callees s g)) h q)

-- the root's bits are its least assignment
pub record IsTop (s : System) (U : ConstraintName → Bool) (top : List Bool) : Type 0 where
  pub size : length top ≡ count s (root s)
  pub least : IsLeast s U (root s) [] (bit_at top)

-- an instance of the table asks for it
pub record IsAskedIn (s : System) (t : List (List Entry)) (h : ℕ) (q : Want) : Type 0 where
  pub group : ℕ
  pub number : ℕ
  pub caller : Entry
  pub there : slice_get (in_group t group) number ≡ Some caller
  pub asks : Asks s group caller.bits (length (callees s group)) h q

-- the root or an instance of the table asks for it
abbrev pub IsAsked : System → List Bool → List (List Entry) → ℕ → Want → Type 0
IsAsked s top t h q = Asks s (root s) top (length (callees s (root s))) h q ⊎ IsAskedIn s t h q

-- what a group was asked for: it is asked for, and it is plain where the program is
pub record IsNeeded (s : System) (U : ConstraintName → Bool) (top : List Bool) (t : List (List Entry)) (h : ℕ) (q : Want) : Type 0 where
  pub askable : IsAskable s h q
  pub asked : IsAsked s top t h q
  pub plain : IsPlainSat s U → PlainIn s U (phi_by s (bit_at top)) h q.proc q.face

-- what an instance answers
abbrev pub want_of : System → Entry → Want
want_of s e = record { proc = e.proc; face = own_face s e }

-- an instance of a group of the table
pub record IsHeld (s : System) (U : ConstraintName → Bool) (top : List Bool) (t : List (List Entry)) (h : ℕ) (e : Entry) : Type 0 where
  pub group : e.group ≡ h
  pub right : IsRight s U (phi_by s (bit_at top)) (at_entry e) (own_face s e) e.bits
  pub needed : IsNeeded s U top t h (want_of s e)

-- what a site of a group asks for by its bits has its instance, or is asked of its group
abbrev pub IsProvided : System → List (List Want) → List (List Entry) → ℕ → List Bool → ℕ → Type 0
IsProvided s w t g bits site =
    Contains (wants_in w (callee s g site).group) (asked s g bits site)
    ⊎ IsAnswered s (in_group t (callee s g site).group) (callee s g site) (sigma_by s g (bit_at bits) site)

-- Groups are worked off from the highest down, and so many are left as lists of what is asked of them. The other groups'
-- instances stand in the table, each group's in order.
pub record IsStage (s : System) (U : ConstraintName → Bool) (top : List Bool) (w : List (List Want)) (t : List (List Entry)) : Type 0 where
  pub left : length w ≤ root s
  pub size : length t ≡ root s
  pub wants : (h : ℕ) (q : Want) → Contains (wants_in w h) q → IsNeeded s U top t h q
  pub done : (h n : ℕ) (e : Entry) → slice_get (in_group t h) n ≡ Some e → length w ≤ h
  pub held : (h n : ℕ) (e : Entry) → slice_get (in_group t h) n ≡ Some e → IsHeld s U top t h e
  pub ordered : (h : ℕ) → IsStrictlySortedBy want_order (map (want_of s) (in_group t h))
  pub first_asks : (site : ℕ) → site < length (callees s (root s)) → IsProvided s w t (root s) top site
  pub asks : (h n : ℕ) (e : Entry) (site : ℕ) → slice_get (in_group t h) n ≡ Some e → site < length (callees s h) → IsProvided s w t h e.bits site
