-- What the verdicts on a program say, and the texts on them.
use Rattle.std.specs.Prelude.{◌≡◌, ◌≢◌, ℕ, ◌≤◌, ◌↔◌, ⊤, Bool, true, List, [], ◌∷◌, codes}
use Rattle.std.specs.List.{Contains, All}
use Rattle.heap_meaning.specs.declared.states.State.{State}
use Rattle.heap_meaning.specs.declared.choices.Choice.{Choice}
use Rattle.heap_meaning.specs.Run.{states_of, step_of, DoubleFree}
use Rattle.heap_law.specs.Owners.{Owner, HasOne, IsOwner}
use Rattle.heap_law.specs.Kept.{IsLeft, IsKept, NoneLeadsBack}
use Rattle.conflict_proof.specs.declared.names.ConstraintName.{ConstraintName}
use Rattle.conflict_proof.specs.declared.derivation.Derivation.{Derivation}
use Rattle.conflict_proof.specs.Text.{derivation_text}
use Rattle.own_cert.specs.declared.certificate.Certificate.{Certificate}
use Rattle.own_cert.specs.Text.{certificate_text}
use Rattle.transfer_rules.specs.Programs.{Parts}
use Rattle.verdict_meaning.specs.Programs.{system_in}
use Rattle.verdict_meaning.specs.Solutions.{all_names, IsSatisfiable, IsSatisfiableOnly}
use Rattle.verdict_meaning.specs.Certificates.{IsGoodCertificate, HasNoNeedless}
use Rattle.verdict_meaning.specs.Derivations.{IsValidIn, Refutes, IsSpent, cost_of}
use Rattle.verdict_meaning.specs.UsedNames.{AreUsedNames}
use Rattle.annotate.specs.Annotation.{IsAnnotation}
use Rattle.annotate.specs.Conflict.{conflict_text}
use Rattle.cert_checker.specs.Owned.{marks_of, RunsHaveOwners}
use Rattle.proof_checker.specs.Checking.{IsAccepted}
use Rattle.call_summary.specs.Inferences.{MayBeSpent}
use Rattle.call_summary.specs.declared.inferred.Inferred.{Inferred}
use Rattle.call_summary.specs.declared.inferred.Inferred.TheVariants as inferred
use Rattle.clouseau_core.specs.declared.report.Conflict.{Conflict}
use Rattle.clouseau_core.specs.declared.report.Verdict.{Verdict}
use Rattle.clouseau_core.specs.declared.way.Way.{Way}
use Rattle.clouseau_core.specs.declared.way.Way.TheVariants as way
use Rattle.clouseau_core.specs.Texts.{undecided_line, sample_line}

-- ---- runs

-- In every state of every run of the program, of any length, up to its first stopping error. A run is a list of choices: what an
-- allocation gives, what a procedure without a body answers and writes.
abbrev pub InEveryRun : Parts → (State → Type 0) → Type 0
InEveryRun p P = (choices : List Choice) → All P (states_of p.graph choices)

-- each live object that malloc or calloc made has exactly one owner, by the certificate: a slot or a field
abbrev pub LiveHasOneOwner : Parts → Certificate → State → Type 0
LiveHasOneOwner p c s = (o : ℕ) → IsLeft s.heap o → HasOne (marks_of p c) s.frames s.heap o

-- every other object has none: one that was freed, and that of a string
abbrev pub OthersHaveNoOwner : Parts → Certificate → State → Type 0
OthersHaveNoOwner p c s = (o : ℕ) → (IsLeft s.heap o → ⊥) → (owner : Owner) → IsOwner (marks_of p c) s.frames s.heap o owner → ⊥

-- no step frees what is freed already
abbrev pub NothingIsFreedTwice : Parts → State → Type 0
NothingIsFreedTwice p s = (choice : Choice) → step_of p.graph s choice ≢ DoubleFree

-- where `main` returned, exactly the kept objects are live: those on cycles of owning fields and what owning fields lead to from these
abbrev pub OnlyKeptIsLeft : Parts → Certificate → State → Type 0
OnlyKeptIsLeft p c s = s.frames ≡ [] → (o : ℕ) → IsLeft s.heap o ↔ IsKept (marks_of p c).phi s.heap o

-- and none where no owning field leads back to its own struct
abbrev pub NothingIsLeft : Parts → Certificate → State → Type 0
NothingIsLeft p c s = s.frames ≡ [] → NoneLeadsBack p.graph (marks_of p c).phi → (o : ℕ) → IsLeft s.heap o → ⊥

-- what a good certificate says of every run
pub record OwnsInEveryRun (p : Parts) (c : Certificate) : Type 0 where
  pub one_owner : InEveryRun p (LiveHasOneOwner p c)
  pub no_other : InEveryRun p (OthersHaveNoOwner p c)
  pub freed_once : InEveryRun p (NothingIsFreedTwice p)
  pub kept : InEveryRun p (OnlyKeptIsLeft p c)
  pub nothing_left : InEveryRun p (NothingIsLeft p c)

-- ---- verdicts

-- Accepted: the certificate is good and has no needless instance, so the constraints can be met, and every run is as it says
pub record IsAcceptance (p : Parts) (c : Certificate) : Type 0 where
  pub good : IsGoodCertificate (system_in p) c
  pub needed : HasNoNeedless (system_in p) c
  pub satisfiable : IsSatisfiable (system_in p)
  pub runs : OwnsInEveryRun p c

-- Conflict: the derivation is valid and refutes, so no assignment meets the constraints that it uses, whatever others count; it
-- costs no more than the budget
pub record IsConflict (p : Parts) (budget : ℕ) (k : Conflict) : Type 0 where
  pub valid : IsValidIn (system_in p) all_names k.derivation.lines
  pub refutes : Refutes (system_in p) k.derivation.lines
  pub used : AreUsedNames k.derivation.lines k.used
  pub none_meets : (U : ConstraintName → Bool) → ((name : ConstraintName) → Contains k.used name → U name ≡ true) → IsSatisfiableOnly (system_in p) U → ⊥
  pub unsatisfiable : IsSatisfiable (system_in p) → ⊥
  pub cost : cost_of k.derivation.lines ≤ budget

-- Undecided: the derivation is valid, has no clause twice in a group, costs more than the budget, and without its last line does
-- not. It never comes where the budget is ample, where propagation alone gives a certificate, or where it refutes within the budget.
pub record IsUndecided (p : Parts) (budget : ℕ) (d : Derivation) : Type 0 where
  pub spent : IsSpent (system_in p) all_names d.lines budget
  pub may : MayBeSpent (system_in p) all_names budget

-- what is tested: the certificate of an acceptance, the derivation of a refutation
abbrev pub IsToTest : Parts → Inferred → Type 0
IsToTest p (inferred.Accepted c) = IsGoodCertificate (system_in p) c
IsToTest p (inferred.Refuted d names) = IsValidIn (system_in p) all_names d.lines × Refutes (system_in p) d.lines
IsToTest p (inferred.Undecided d) = ⊤

-- what the tests say of it
abbrev pub IsChecked : Parts → Inferred → Type 0
IsChecked p (inferred.Accepted c) = RunsHaveOwners p c
IsChecked p (inferred.Refuted d names) = IsAccepted (system_in p) all_names d.lines
IsChecked p (inferred.Undecided d) = ⊤

-- the same of what was inferred
abbrev pub IsTested : Parts → ℕ → Inferred → Type 0
IsTested p budget (inferred.Accepted c) = IsAcceptance p c
IsTested p budget (inferred.Refuted d names) = IsConflict p budget (record { used = names; derivation = d })
IsTested p budget (inferred.Undecided d) = IsUndecided p budget d

-- the verdict that was inferred
abbrev pub verdict_of : Inferred → Verdict
verdict_of (inferred.Accepted c) = Verdict.Accepted c
verdict_of (inferred.Refuted d names) = Verdict.Conflict (record { used = names; derivation = d } ∷ [])
verdict_of (inferred.Undecided d) = Verdict.Undecided d

-- ---- texts

-- the text of `check`
abbrev pub IsCheckText : Parts → ℕ → Inferred → List ℕ → Type 0
IsCheckText p budget (inferred.Accepted c) text = IsAnnotation p c text
IsCheckText p budget (inferred.Refuted d names) text = text ≡ conflict_text p.typed p.graph names
IsCheckText p budget (inferred.Undecided d) text = text ≡ undecided_line budget

-- that of `prove`
abbrev pub proved_text : Inferred → List ℕ
proved_text (inferred.Accepted c) = certificate_text c
proved_text (inferred.Refuted d names) = derivation_text d
proved_text (inferred.Undecided d) = derivation_text d

abbrev pub verdict_word : Inferred → List ℕ
verdict_word (inferred.Accepted c) = codes "accepted"
verdict_word (inferred.Refuted d names) = codes "conflict"
verdict_word (inferred.Undecided d) = codes "undecided"

abbrev pub IsTextBy : Way → Parts → ℕ → Inferred → List ℕ → Type 0
IsTextBy way.Check p budget i text = IsCheckText p budget i text
IsTextBy way.Prove p budget i text = text ≡ proved_text i
IsTextBy (way.Sample count) p budget i text = text ≡ sample_line count (verdict_word i)

-- a verdict on a program, and the text that tells it
pub data IsJudged (w : Way) (budget : ℕ) (p : Parts) : Verdict → List ℕ → Type 0 where
  accepted : (c : Certificate) (text : List ℕ) → IsAcceptance p c → IsTextBy w p budget (inferred.Accepted c) text
      → IsJudged w budget p (Verdict.Accepted c) text
  conflict : (d : Derivation) (names : List ConstraintName) (text : List ℕ) → IsConflict p budget (record { used = names; derivation = d })
      → IsTextBy w p budget (inferred.Refuted d names) text
      → IsJudged w budget p (Verdict.Conflict (record { used = names; derivation = d } ∷ [])) text
  undecided : (d : Derivation) (text : List ℕ) → IsUndecided p budget d → IsTextBy w p budget (inferred.Undecided d) text
      → IsJudged w budget p (Verdict.Undecided d) text
