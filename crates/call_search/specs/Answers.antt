-- What the parts of the search answer.
use Rattle.std.specs.Prelude.{◌≡◌, ◌≢◌, ℕ, suc, ◌<◌, ◌≤◌, Bool, List, [], ◌∷◌, ◌++◌, Option, Some, None, length, slice_get}
use Rattle.zo_core.specs.Literals.{Literal}
use Rattle.conflict_proof.specs.declared.names.ConstraintName.{ConstraintName}
use Rattle.conflict_proof.specs.declared.derivation.Line.{Line}
use Rattle.verdict_meaning.specs.declared.callee.Callee.{Callee}
use Rattle.verdict_meaning.specs.Systems.{System, root, callee, count}
use Rattle.verdict_meaning.specs.Solutions.{IsLocal, phi_by, sigma_by}
use Rattle.verdict_meaning.specs.Certificates.{bit_at}
use Rattle.verdict_meaning.specs.Derivations.{InstLinesAreTrue, IsCarriedBy, line_at}
use Rattle.call_search.specs.Indexes.{Ledger}
use Rattle.call_search.specs.declared.entries.Entry.{Entry}
use Rattle.call_search.specs.declared.groups.Outcome.{Outcome}
use Rattle.call_search.specs.declared.groups.Outcome.TheVariants as outcome
use Rattle.call_search.specs.declared.fill.Answered.{Answered}
use Rattle.call_search.specs.declared.fill.Answered.TheVariants as answered
use Rattle.call_search.specs.declared.fill.Asked.{Asked}
use Rattle.call_search.specs.declared.fill.Asked.TheVariants as asked
use Rattle.call_search.specs.declared.search.Found.{Found}
use Rattle.call_search.specs.declared.search.Found.TheVariants as found
use Rattle.call_search.specs.Shapes.{stated, before_own}
use Rattle.call_search.specs.Ledgers.{Extends, IsOver, IsDenied, IsSolved, Solves}
use Rattle.call_search.specs.Entries.{in_group, Answers, IsTable, IsAnswered, AreKept, Grows, AllAnswered, IsFull, IsAskedBy, AreDown, AreWanted}

-- an outcome of solving a group under the literals given
abbrev pub OutcomeIs : System → (ConstraintName → Bool) → ℕ → List Literal → Ledger → Ledger → Outcome → Type 0
OutcomeIs s U g given old new (outcome.Sat bits) = (new ≡ old) × IsSolved s U old.lines g given bits
OutcomeIs s U g given old new (outcome.Conflict n) = Solves s U g old new × IsDenied new.lines g given n
OutcomeIs s U g given old new (outcome.Spent line) = Solves s U g old new × IsOver s U new line

-- the literals under which an instance is solved
abbrev pub given_for : System → List Bool → Callee → List Bool → List Literal
given_for s phi c face = stated 1 phi ++ stated (suc (before_own s c)) face

-- at most one instance was added, which is of this procedure with this interface
pub record Adds (s : System) (c : Callee) (face : List Bool) (old new : List (List Entry)) : Type 0 where
  pub size : length new ≡ length old
  pub others : (h : ℕ) → h ≢ c.group → in_group new h ≡ in_group old h
  pub more : List Entry
  pub is : in_group new c.group ≡ in_group old c.group ++ more
  pub each : (n : ℕ) (e : Entry) → slice_get more n ≡ Some e → Answers s e c face

-- the instance is there
pub record IsObtained (s : System) (U : ConstraintName → Bool) (phi : List Bool) (c : Callee) (face : List Bool) (old new : Ledger) (t u : List (List Entry)) : Type 0 where
  pub ledger : new ≡ old
  pub table : IsTable s U new.lines phi u
  pub adds : Adds s c face t u
  pub answered : IsAnswered s (in_group u c.group) c face

abbrev pub AnsweredIs : System → (ConstraintName → Bool) → List Bool → Callee → List Bool → Ledger → Ledger → List (List Entry) → List (List Entry) → Answered → Type 0
AnsweredIs s U phi c face old new t u answered.Yes = IsObtained s U phi c face old new t u
AnsweredIs s U phi c face old new t u (answered.Refused n) = Solves s U c.group old new × IsDenied new.lines c.group (given_for s phi c face) n
AnsweredIs s U phi c face old new t u (answered.Spent line) = Solves s U c.group old new × IsOver s U new line

-- bits of a group, or of the root, that meet its constraints and the lines that were carried to it
pub record IsAsker (s : System) (U : ConstraintName → Bool) (lines : List Line) (phi : List Bool) (g : ℕ) (bits : List Bool) : Type 0 where
  pub size : length bits ≡ count s g
  pub local : IsLocal s U g (bit_at bits)
  pub phi_is : phi_by s (bit_at bits) ≡ phi
  pub carried : InstLinesAreTrue lines g (bit_at bits)

-- what the sites ask for was found or solved
pub record IsProvided (s : System) (U : ConstraintName → Bool) (phi : List Bool) (g : ℕ) (bits : List Bool) (old new : Ledger) (t u : List (List Entry)) (from upto : ℕ) : Type 0 where
  pub ledger : new ≡ old
  pub table : IsTable s U new.lines phi u
  pub grows : Grows s g bits t u
  pub answered : (site : ℕ) → from ≤ site → site < upto → IsAnswered s (in_group u (callee s g site).group) (callee s g site) (sigma_by s g (bit_at bits) site)

-- none of the lines was carried to a site
abbrev pub NoneIsCarried : List Line → Type 0
NoneIsCarried lines = (n : ℕ) (x : Line) → slice_get lines n ≡ Some x → IsCarriedBy x.how → ⊥

-- lines were added, which cost words, and of which only the last one may have been carried to a site
pub record IsPaid (s : System) (U : ConstraintName → Bool) (old new : Ledger) : Type 0 where
  pub extends : Extends s U old new
  pub fewer : new.words < old.words
  pub own : List Line
  pub last : Line
  pub is : new.lines ≡ old.lines ++ (own ++ last ∷ [])
  pub none : NoneIsCarried own

abbrev pub CarriedIs : System → (ConstraintName → Bool) → Ledger → Ledger → Option Line → Type 0
CarriedIs s U old new None = IsPaid s U old new
CarriedIs s U old new (Some line) = (new ≡ old) × IsOver s U new line

-- this line was added, or is the one that would be next
abbrev pub IsAdded : Line → Ledger → Ledger → Option Line → Type 0
IsAdded line old new None = new.lines ≡ old.lines ++ line ∷ []
IsAdded line old new (Some next) = next ≡ line

-- one site, or all sites from one up to another
abbrev pub AskedIs : System → (ConstraintName → Bool) → List Bool → ℕ → List Bool → Ledger → Ledger → List (List Entry) → List (List Entry) → ℕ → ℕ → Asked → Type 0
AskedIs s U phi g bits old new t u from upto asked.Kept = IsProvided s U phi g bits old new t u from upto
AskedIs s U phi g bits old new t u from upto asked.Carried = IsPaid s U old new
AskedIs s U phi g bits old new t u from upto (asked.Spent line) = Extends s U old new × IsOver s U new line

-- what the first instances of a group ask for was found or solved
pub record IsDeepened (s : System) (U : ConstraintName → Bool) (phi : List Bool) (g : ℕ) (old new : Ledger) (t u : List (List Entry)) (upto : ℕ) : Type 0 where
  pub ledger : new ≡ old
  pub table : IsTable s U new.lines phi u
  pub same : (h : ℕ) → g ≤ h → in_group u h ≡ in_group t h
  pub more : ℕ → List Entry
  pub is : (h : ℕ) → in_group u h ≡ in_group t h ++ more h
  pub wanted : (h n : ℕ) (e : Entry) → slice_get (more h) n ≡ Some e → IsAskedBy s u e
  pub answered : (n : ℕ) (e : Entry) → n < upto → slice_get (in_group u g) n ≡ Some e → AllAnswered s u g e.bits

abbrev pub DeepenedIs : System → (ConstraintName → Bool) → List Bool → ℕ → Ledger → Ledger → List (List Entry) → List (List Entry) → Asked → Type 0
DeepenedIs s U phi g old new t u asked.Kept = IsDeepened s U phi g old new t u (length (in_group u g))
DeepenedIs s U phi g old new t u asked.Carried = IsPaid s U old new
DeepenedIs s U phi g old new t u (asked.Spent line) = Extends s U old new × IsOver s U new line

-- what the root asks for and what the instances of the groups from one on ask for was found or solved
pub record IsFilling (s : System) (U : ConstraintName → Bool) (phi top : List Bool) (old new : Ledger) (u : List (List Entry)) (from : ℕ) : Type 0 where
  pub ledger : new ≡ old
  pub table : IsTable s U new.lines phi u
  pub root : AllAnswered s u (root s) top
  pub down : AreDown s u from
  pub wanted : AreWanted s top u

-- the search of one choice of owning fields
pub record IsFilled (s : System) (U : ConstraintName → Bool) (phi top : List Bool) (old new : Ledger) (u : List (List Entry)) : Type 0 where
  pub ledger : new ≡ old
  pub table : IsTable s U new.lines phi u
  pub full : IsFull s top u

abbrev pub FilledIs : System → (ConstraintName → Bool) → List Bool → List Bool → Ledger → Ledger → List (List Entry) → Asked → Type 0
FilledIs s U phi top old new u asked.Kept = IsFilled s U phi top old new u
FilledIs s U phi top old new u asked.Carried = IsPaid s U old new
FilledIs s U phi top old new u (asked.Spent line) = Extends s U old new × IsOver s U new line

-- what the root asks for by its bits is all there
pub record IsSettled (s : System) (U : ConstraintName → Bool) (phi top : List Bool) (old new : Ledger) (t : List (List Entry)) : Type 0 where
  pub extends : Extends s U old new
  pub asker : IsAsker s U new.lines phi (root s) top
  pub table : IsTable s U new.lines phi t
  pub full : IsFull s top t

-- a line was carried to the root, and what no line refutes is kept
pub record IsTurned (s : System) (U : ConstraintName → Bool) (phi : List Bool) (old new : Ledger) (k : List (List Entry)) : Type 0 where
  pub extends : Extends s U old new
  pub fewer : new.words < old.words
  pub kept : AreKept s U new.lines phi k

abbrev pub SettledIs : System → (ConstraintName → Bool) → List Bool → List Bool → Ledger → Ledger → List (List Entry) → List (List Entry) → Asked → Type 0
SettledIs s U phi top old new k t asked.Kept = IsSettled s U phi top old new t
SettledIs s U phi top old new k t asked.Carried = IsTurned s U phi old new k
SettledIs s U phi top old new k t (asked.Spent line) = Extends s U old new × IsOver s U new line

-- a line of the root without literals
pub record IsRefuting (s : System) (lines : List Line) (n : ℕ) : Type 0 where
  pub line : Line
  pub there : line_at lines n ≡ Some line
  pub group : line.group ≡ root s
  pub empty : line.lits ≡ []

pub record HasSolution (s : System) (U : ConstraintName → Bool) (lines : List Line) (top : List Bool) (t : List (List Entry)) : Type 0 where
  pub asker : IsAsker s U lines (phi_by s (bit_at top)) (root s) top
  pub table : IsTable s U lines (phi_by s (bit_at top)) t
  pub full : IsFull s top t

abbrev pub FoundIs : System → (ConstraintName → Bool) → Ledger → Ledger → List (List Entry) → Found → Type 0
FoundIs s U old new t (found.Solution top) = Extends s U old new × HasSolution s U new.lines top t
FoundIs s U old new t (found.Refuted n) = Extends s U old new × IsRefuting s new.lines n
FoundIs s U old new t (found.Spent line) = Extends s U old new × IsOver s U new line
