-- Instances that are solved, and which of them answer what a site asks for.
use Rattle.std.specs.Prelude.{◌≡◌, ◌≢◌, ℕ, ◌<◌, ◌≤◌, ◌⊎◌, Bool, true, List, [], ◌∷◌, ◌++◌, Some, length, slice_get, slice_index_or}
use Rattle.zo_core.specs.Literals.{Literal}
use Rattle.zo_core.specs.Truth.{clause_true}
use Rattle.conflict_proof.specs.declared.names.ConstraintName.{ConstraintName}
use Rattle.conflict_proof.specs.declared.derivation.Line.{Line}
use Rattle.verdict_meaning.specs.declared.callee.Callee.{Callee}
use Rattle.verdict_meaning.specs.Systems.{System, root, callee, callees, count}
use Rattle.verdict_meaning.specs.Solutions.{IsLocal, phi_by, pi_by, sigma_by}
use Rattle.verdict_meaning.specs.Certificates.{bit_at}
use Rattle.verdict_meaning.specs.Derivations.{InstLinesAreTrue}
use Rattle.call_search.specs.declared.entries.Entry.{Entry}
use Rattle.call_search.specs.Shapes.{IsThere}

abbrev pub at_entry : Entry → Callee
at_entry e = record { proc = e.proc; group = e.group }

-- instances by group
abbrev pub in_group : List (List Entry) → ℕ → List Entry
in_group t g = slice_index_or t g []

-- a solved instance, where fields own as phi says
pub record IsKept (s : System) (U : ConstraintName → Bool) (lines : List Line) (phi : List Bool) (e : Entry) : Type 0 where
  pub there : IsThere s (at_entry e)
  pub size : length e.bits ≡ count s e.group
  pub local : IsLocal s U e.group (bit_at e.bits)
  pub phi_is : phi_by s (bit_at e.bits) ≡ phi
  pub carried : InstLinesAreTrue lines e.group (bit_at e.bits)

-- an instance of a procedure of its group, with a bit for each unknown
pub record IsSized (s : System) (e : Entry) : Type 0 where
  pub there : IsThere s (at_entry e)
  pub size : length e.bits ≡ count s e.group

-- the interface of the procedure through which the instance is entered
abbrev pub own_face : System → Entry → List Bool
own_face s e = pi_by s e.group (bit_at e.bits) e.proc

-- the instance is of this procedure with this interface
pub record Answers (s : System) (e : Entry) (c : Callee) (face : List Bool) : Type 0 where
  pub proc : e.proc ≡ c.proc
  pub group : e.group ≡ c.group
  pub face_is : own_face s e ≡ face

-- one of the instances is
pub record IsAnswered (s : System) (es : List Entry) (c : Callee) (face : List Bool) : Type 0 where
  pub number : ℕ
  pub entry : Entry
  pub there : slice_get es number ≡ Some entry
  pub answers : Answers s entry c face

-- the one of this number is
pub record IsAnswerAt (s : System) (es : List Entry) (c : Callee) (face : List Bool) (n : ℕ) : Type 0 where
  pub entry : Entry
  pub there : slice_get es n ≡ Some entry
  pub answers : Answers s entry c face

-- none of them is
abbrev pub NoneAnswers : System → List Entry → Callee → List Bool → Type 0
NoneAnswers s es c face = (n : ℕ) (e : Entry) → slice_get es n ≡ Some e → Answers s e c face → ⊥

-- solved instances in the lists of their groups, no two of one procedure with one interface
pub record IsTable (s : System) (U : ConstraintName → Bool) (lines : List Line) (phi : List Bool) (t : List (List Entry)) : Type 0 where
  pub size : length t ≡ root s
  pub kept : (g n : ℕ) (e : Entry) → slice_get (in_group t g) n ≡ Some e → IsKept s U lines phi e
  pub group : (g n : ℕ) (e : Entry) → slice_get (in_group t g) n ≡ Some e → e.group ≡ g
  pub apart : (g n m : ℕ) (e f : Entry) → slice_get (in_group t g) n ≡ Some e → slice_get (in_group t g) m ≡ Some f → Answers s e (at_entry f) (own_face s f) → n ≡ m

-- solved instances in the lists of their groups
pub record AreKept (s : System) (U : ConstraintName → Bool) (lines : List Line) (phi : List Bool) (t : List (List Entry)) : Type 0 where
  pub size : length t ≡ root s
  pub kept : (g n : ℕ) (e : Entry) → slice_get (in_group t g) n ≡ Some e → IsKept s U lines phi e
  pub group : (g n : ℕ) (e : Entry) → slice_get (in_group t g) n ≡ Some e → e.group ≡ g

-- both tables still have solved instances
pub record AreLeft (s : System) (U : ConstraintName → Bool) (lines : List Line) (phi : List Bool) (t k : List (List Entry)) : Type 0 where
  pub table : IsTable s U lines phi t
  pub kept : AreKept s U lines phi k

-- an instance of the group's list
abbrev pub IsFrom : List (List Entry) → ℕ → Entry → Type 0
IsFrom t g e = (n : ℕ) × (slice_get (in_group t g) n ≡ Some e)

-- each instance was in the list of its group before
pub record AreFewer (old new : List (List Entry)) : Type 0 where
  pub size : length new ≡ length old
  pub each : (g n : ℕ) (e : Entry) → slice_get (in_group new g) n ≡ Some e → IsFrom old g e

-- the instance was put behind those of the group
pub record IsPut (g : ℕ) (e : Entry) (old new : List (List Entry)) : Type 0 where
  pub size : length new ≡ length old
  pub here : in_group new g ≡ in_group old g ++ e ∷ []
  pub others : (h : ℕ) → h ≢ g → in_group new h ≡ in_group old h

-- the bits of this instance of a group
abbrev pub AreBitsAt : List (List Entry) → ℕ → ℕ → List Bool → Type 0
AreBitsAt t g n bits = (e : Entry) → slice_get (in_group t g) n ≡ Some e → bits ≡ e.bits

-- a site of a group with these bits asks for the instance
pub record IsAskedAt (s : System) (g : ℕ) (bits : List Bool) (e : Entry) : Type 0 where
  pub site : ℕ
  pub within : site < length (callees s g)
  pub answers : Answers s e (callee s g site) (sigma_by s g (bit_at bits) site)

-- instances were added, for which sites of a group with these bits ask
pub record Grows (s : System) (g : ℕ) (bits : List Bool) (old new : List (List Entry)) : Type 0 where
  pub size : length new ≡ length old
  pub same : (h : ℕ) → g ≤ h → in_group new h ≡ in_group old h
  pub more : ℕ → List Entry
  pub is : (h : ℕ) → in_group new h ≡ in_group old h ++ more h
  pub wanted : (h n : ℕ) (e : Entry) → slice_get (more h) n ≡ Some e → IsAskedAt s g bits e

-- what the first sites of a group ask for by its bits is answered
abbrev pub AreAnswered : System → List (List Entry) → ℕ → List Bool → ℕ → Type 0
AreAnswered s t g bits upto = (site : ℕ) → site < upto → IsAnswered s (in_group t (callee s g site).group) (callee s g site) (sigma_by s g (bit_at bits) site)

-- the same for all sites of a group
abbrev pub AllAnswered : System → List (List Entry) → ℕ → List Bool → Type 0
AllAnswered s t g bits = AreAnswered s t g bits (length (callees s g))

-- each instance of the groups from this one on has what it asks for
abbrev pub AreDown : System → List (List Entry) → ℕ → Type 0
AreDown s t from = (g n : ℕ) (e : Entry) → from ≤ g → slice_get (in_group t g) n ≡ Some e → AllAnswered s t g e.bits

-- an instance of the table asks for it
pub record IsAskedBy (s : System) (t : List (List Entry)) (e : Entry) : Type 0 where
  pub group : ℕ
  pub number : ℕ
  pub caller : Entry
  pub there : slice_get (in_group t group) number ≡ Some caller
  pub asked : IsAskedAt s group caller.bits e

-- instances of which none is needless: the root or another of them asks for it
abbrev pub AreWanted : System → List Bool → List (List Entry) → Type 0
AreWanted s top t = (g n : ℕ) (e : Entry) → slice_get (in_group t g) n ≡ Some e → IsAskedAt s (root s) top e ⊎ IsAskedBy s t e

-- everything that is asked for is there, and nothing else
pub record IsFull (s : System) (top : List Bool) (t : List (List Entry)) : Type 0 where
  pub root : AllAnswered s t (root s) top
  pub down : AreDown s t 0
  pub wanted : AreWanted s top t

-- each instance has a bit for each unknown of its group
abbrev pub AreSized : System → List (List Entry) → Type 0
AreSized s t = (g n : ℕ) (e : Entry) → slice_get (in_group t g) n ≡ Some e → IsSized s e

-- each instance was there before, and makes the clause true
abbrev pub AreTrueOnly : List Literal → List Entry → List Entry → Type 0
AreTrueOnly c old new = (n : ℕ) (e : Entry) → slice_get new n ≡ Some e → ((m : ℕ) × (slice_get old m ≡ Some e)) × (clause_true (bit_at e.bits) c ≡ true)

-- each instance is of one of these tables
pub record AreJoined (one other new : List (List Entry)) : Type 0 where
  pub size : length new ≡ length one
  pub each : (g n : ℕ) (e : Entry) → slice_get (in_group new g) n ≡ Some e → IsFrom one g e ⊎ IsFrom other g e

-- each instance was kept before or is one of the table, and those of the line's group make it true
pub record AreKeptBy (line : Line) (old t new : List (List Entry)) : Type 0 where
  pub size : length new ≡ length old
  pub each : (g n : ℕ) (e : Entry) → slice_get (in_group new g) n ≡ Some e → (IsFrom old g e ⊎ IsFrom t g e) × (line.group ≡ g → clause_true (bit_at e.bits) line.lits ≡ true)

-- a table of so many groups without instances
pub record AreEmpty (n : ℕ) (t : List (List Entry)) : Type 0 where
  pub size : length t ≡ n
  pub each : (g : ℕ) → in_group t g ≡ []
