-- What certificates, derivations and propagation show. In each law U and V are tests of names: the constraints that count
-- are those whose names pass the test, and those of the rule that is always in force.
use Rattle.std.specs.Prelude.{◌≡◌, ℕ, ◌≤◌, Bool, true, List, Some}
use Rattle.std.specs.List.{Contains}
use Rattle.zo_core.specs.Truth.{clause_true}
use Rattle.zo_core.specs.Order.{Ascends}
use Rattle.conflict_proof.specs.declared.names.ConstraintName.{ConstraintName}
use Rattle.conflict_proof.specs.declared.derivation.Line.{Line}
use Rattle.conflict_proof.specs.declared.faults.Reason.{Reason}
use Rattle.own_cert.specs.declared.certificate.Certificate.{Certificate}
use Rattle.verdict_meaning.specs.Systems.{System, root}
use Rattle.verdict_meaning.specs.Solutions.{counts, IsLocal, IsAdmitted, IsSatisfiableOnly}
use Rattle.verdict_meaning.specs.Certificates.{IsGoodIn}
use Rattle.verdict_meaning.specs.CertificateFaults as certificate
use Rattle.verdict_meaning.specs.Derivations.{line_at, IsValidIn, Refutes, cost_of, NoClauseTwice, HasAtMost, most_cost, IsSpent, InstLinesAreTrue}
use Rattle.verdict_meaning.specs.DerivationFaults as derivation
use Rattle.verdict_meaning.specs.UsedNames.{IsAxiomOf, AreUsedNames}
use Rattle.verdict_meaning.specs.Closures.{IsUnitRefuted}
use Rattle.verdict_meaning.specs.Plain.{IsPlainSat}

-- Each line of a valid derivation is true under every assignment that its group admits where the constraints on which
-- it stands count.
abbrev pub LinesAreTrue : Type 0
LinesAreTrue =
    (s : System) (V U : ConstraintName → Bool) (lines : List Line) → IsValidIn s V lines
    → (n : ℕ) (line : Line) → line_at lines n ≡ Some line
    → ((name : ConstraintName) → IsAxiomOf lines n name → counts U name ≡ true)
    → (a : ℕ → Bool) → IsAdmitted s U line.group a → clause_true a line.lits ≡ true

-- In a group whose constraints an assignment meets, and with the lines that were carried to it, each line is true.
abbrev pub LocalLinesAreTrue : Type 0
LocalLinesAreTrue =
    (s : System) (U : ConstraintName → Bool) (lines : List Line) (g : ℕ) (a : ℕ → Bool) → IsValidIn s U lines → IsLocal s U g a
    → InstLinesAreTrue lines g a → (n : ℕ) (line : Line) → line_at lines n ≡ Some line → line.group ≡ g → clause_true a line.lits ≡ true

-- A good certificate shows that the constraints can be met.
abbrev pub GoodIsSatisfiable : Type 0
GoodIsSatisfiable = (s : System) (U : ConstraintName → Bool) (c : Certificate) → IsGoodIn s U c → IsSatisfiableOnly s U

-- A valid derivation that refutes shows that the constraints that it uses cannot be met together, whatever others count.
abbrev pub UsedAreUnsatisfiable : Type 0
UsedAreUnsatisfiable =
    (s : System) (V U : ConstraintName → Bool) (lines : List Line) (names : List ConstraintName)
    → IsValidIn s V lines → Refutes s lines → AreUsedNames lines names
    → ((name : ConstraintName) → Contains names name → U name ≡ true) → IsSatisfiableOnly s U → ⊥

-- The constraints with which a refuting derivation is valid cannot be met together.
abbrev pub RefutedIsUnsatisfiable : Type 0
RefutedIsUnsatisfiable = (s : System) (U : ConstraintName → Bool) (lines : List Line) → IsValidIn s U lines → Refutes s lines → IsSatisfiableOnly s U → ⊥

-- No program has both a good certificate and a valid derivation that refutes.
abbrev pub AcceptedIsNotRefuted : Type 0
AcceptedIsNotRefuted =
    (s : System) (U : ConstraintName → Bool) (c : Certificate) (lines : List Line) → IsGoodIn s U c → IsValidIn s U lines → Refutes s lines → ⊥

-- Where the assignments that propagation alone makes are solutions, the constraints can be met.
abbrev pub PlainIsSatisfiable : Type 0
PlainIsSatisfiable = (s : System) (U : ConstraintName → Bool) → IsPlainSat s U → IsSatisfiableOnly s U

-- Where propagation alone reaches an unknown in both signs, they cannot.
abbrev pub UnitRefutedIsUnsatisfiable : Type 0
UnitRefutedIsUnsatisfiable = (s : System) (U : ConstraintName → Bool) → IsUnitRefuted s U → IsSatisfiableOnly s U → ⊥

-- Fewer constraints are met where more are.
abbrev pub FewerAreSatisfiable : Type 0
FewerAreSatisfiable =
    (s : System) (U V : ConstraintName → Bool) → ((name : ConstraintName) → V name ≡ true → U name ≡ true)
    → IsSatisfiableOnly s U → IsSatisfiableOnly s V

-- What is valid with some constraints is valid with more.
abbrev pub MoreAreValid : Type 0
MoreAreValid =
    (s : System) (V U : ConstraintName → Bool) (lines : List Line) → ((name : ConstraintName) → V name ≡ true → U name ≡ true)
    → IsValidIn s V lines → IsValidIn s U lines

-- A valid derivation without a clause twice in a group costs no more than this.
abbrev pub CostIsBounded : Type 0
CostIsBounded =
    (s : System) (V : ConstraintName → Bool) (lines : List Line) (most : ℕ)
    → IsValidIn s V lines → NoClauseTwice lines → HasAtMost s most → cost_of lines ≤ most_cost (root s) most

-- A budget of this bound is never spent.
abbrev pub BudgetSuffices : Type 0
BudgetSuffices =
    (s : System) (V : ConstraintName → Bool) (lines : List Line) (budget most : ℕ)
    → HasAtMost s most → most_cost (root s) most ≤ budget → IsSpent s V lines budget → ⊥

-- Of two lists of a derivation's used names each is the other.
abbrev pub UsedNamesAreOne : Type 0
UsedNamesAreOne = (lines : List Line) (names others : List ConstraintName) → AreUsedNames lines names → AreUsedNames lines others → names ≡ others

-- A certificate that has a fault is not good.
abbrev pub FaultyIsNotGood : Type 0
FaultyIsNotGood = (s : System) (U : ConstraintName → Bool) (c : Certificate) (why : Reason) (line : ℕ) → certificate.HasFault s U c why line → IsGoodIn s U c → ⊥

-- A certificate that has none is good.
abbrev pub FaultlessIsGood : Type 0
FaultlessIsGood = (s : System) (U : ConstraintName → Bool) (c : Certificate) → ((why : Reason) (line : ℕ) → certificate.HasFault s U c why line → ⊥) → IsGoodIn s U c

-- A derivation that has a fault is not valid, or does not refute.
abbrev pub FaultyIsNotValid : Type 0
FaultyIsNotValid =
    (s : System) (U : ConstraintName → Bool) (lines : List Line) (why : Reason) (line : ℕ)
    → derivation.HasFault s U lines why line → IsValidIn s U lines → Refutes s lines → ⊥

-- A derivation that has none is valid, and refutes, where each of its lines is a clause.
abbrev pub FaultlessIsValid : Type 0
FaultlessIsValid =
    (s : System) (U : ConstraintName → Bool) (lines : List Line) → ((n : ℕ) (line : Line) → line_at lines n ≡ Some line → Ascends 0 line.lits)
    → ((why : Reason) (line : ℕ) → derivation.HasFault s U lines why line → ⊥) → IsValidIn s U lines × Refutes s lines
