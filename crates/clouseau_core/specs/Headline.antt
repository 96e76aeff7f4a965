-- What the verdicts of a call promise, and when there is one.
use Rattle.std.specs.Prelude.{◌≡◌, ℕ, ◌≤◌, ⊤, List, [], ◌∷◌, Some, length}
use Rattle.io_edge.specs.Held.{Held, Whole}
use Rattle.io_edge.specs.Faults.{Rose}
use Rattle.io_edge.specs.Reading.{IsContent}
use Rattle.conflict_proof.specs.declared.faults.BadLine.{BadLine}
use Rattle.conflict_proof.specs.declared.derivation.Derivation.{Derivation}
use Rattle.own_cert.specs.declared.certificate.Certificate.{Certificate}
use Rattle.transfer_rules.specs.Programs.{Parts}
use Rattle.source_program.specs.declared.refusal.Refusal.{Refusal}
use Rattle.source_program.specs.Sources.{most_bytes, IsCause, IsProgramOf}
use Rattle.source_program.specs.Loading.{IsLoaded}
use Rattle.text_checker.specs.Verified.{IsValidText, IsInvalid}
use Rattle.call_summary.specs.declared.inferred.Inferred.{Inferred}
use Rattle.call_summary.specs.declared.inferred.Inferred.TheVariants as inferred
use Rattle.command_words.specs.Asked.{Task, check, prove, verify, sample, Asked, asked_command}
use Rattle.command_words.specs.Sample.{sample_text}
use Rattle.clouseau_core.specs.declared.report.Conflict.{Conflict}
use Rattle.clouseau_core.specs.declared.report.Verdict.{Verdict}
use Rattle.clouseau_core.specs.Texts.{valid_line, invalid_line, sample_line}
use Rattle.clouseau_core.specs.Judged.{IsAcceptance, IsConflict, IsUndecided, IsCheckText, proved_text, verdict_word}
use Rattle.clouseau_core.specs.Answers.{most_text_bytes}
use Rattle.clouseau_core.specs.Report.{Output, Took}

-- ---- what a verdict promises

-- the program of the source that a task is about: that of the file, or of the sample
abbrev pub IsSourceOf : (List ℕ → Held) → Task → Parts → Type 0
IsSourceOf held (check name) p = IsLoaded (held name) p
IsSourceOf held (prove name) p = IsLoaded (held name) p
IsSourceOf held (verify file name) p = IsLoaded (held file) p
IsSourceOf held (sample count) p = IsProgramOf (sample_text count) p

-- what a task prints of what was inferred
abbrev pub IsPrintedBy : Task → Parts → ℕ → Inferred → Output → Type 0
IsPrintedBy (check name) p budget i out = (text : List ℕ) × IsCheckText p budget i text × Took out text
IsPrintedBy (prove name) p budget i out = Took out (proved_text i)
IsPrintedBy (verify file name) p budget i out = ⊥
IsPrintedBy (sample count) p budget i out = Took out (sample_line count (verdict_word i))

-- the words ask for this, and it is about the source of this program
pub record IsAskedOf (words : List (List ℕ)) (held : List ℕ → Held) (a : Asked) (p : Parts) : Type 0 where
  pub command : asked_command words ≡ Some a
  pub source : IsSourceOf held a.task p

-- Accepted: the certificate is good for the program of the source, in every run each live object has exactly one owner by it and
-- each freed object none, nothing is freed twice, and where `main` returned only the kept objects are left; and it is printed
pub record AcceptsSource (words : List (List ℕ)) (held : List ℕ → Held) (out : Output) (c : Certificate) : Type 0 where
  pub asked : Asked
  pub program : Parts
  pub of : IsAskedOf words held asked program
  pub acceptance : IsAcceptance program c
  pub printed : IsPrintedBy asked.task program asked.budget (inferred.Accepted c) out

-- Conflict: one; no assignment meets the constraints that are printed, and the derivation is valid and refutes
pub record RefutesSource (words : List (List ℕ)) (held : List ℕ → Held) (out : Output) (ks : List Conflict) : Type 0 where
  pub asked : Asked
  pub program : Parts
  pub of : IsAskedOf words held asked program
  pub conflict : Conflict
  pub one : ks ≡ conflict ∷ []
  pub refutation : IsConflict program asked.budget conflict
  pub printed : IsPrintedBy asked.task program asked.budget (inferred.Refuted conflict.derivation conflict.used) out

-- Undecided: the derivation shows that the budget is spent
pub record LeavesSourceOpen (words : List (List ℕ)) (held : List ℕ → Held) (out : Output) (d : Derivation) : Type 0 where
  pub asked : Asked
  pub program : Parts
  pub of : IsAskedOf words held asked program
  pub open_by : IsUndecided program asked.budget d
  pub printed : IsPrintedBy asked.task program asked.budget (inferred.Undecided d) out

-- the bytes under the second name of `verify`
abbrev pub IsTextOf : (List ℕ → Held) → Task → List ℕ → Type 0
IsTextOf held (check name) bytes = ⊥
IsTextOf held (prove name) bytes = ⊥
IsTextOf held (verify file name) bytes = IsContent (held name) bytes × (length bytes ≤ most_text_bytes)
IsTextOf held (sample count) bytes = ⊥

-- Valid: the text is that of a certificate that is good for the program of the source, and then every run is as under Accepted;
-- or that of a derivation that is valid and refutes
pub record VerifiesText (words : List (List ℕ)) (held : List ℕ → Held) (out : Output) : Type 0 where
  pub asked : Asked
  pub program : Parts
  pub of : IsAskedOf words held asked program
  pub bytes : List ℕ
  pub text : IsTextOf held asked.task bytes
  pub valid : IsValidText program bytes
  pub printed : Took out valid_line

-- Invalid: it is neither, and this is its first faulty line
pub record FaultsText (words : List (List ℕ)) (held : List ℕ → Held) (out : Output) (bad : BadLine) : Type 0 where
  pub asked : Asked
  pub program : Parts
  pub of : IsAskedOf words held asked program
  pub bytes : List ℕ
  pub text : IsTextOf held asked.task bytes
  pub invalid : IsInvalid program bytes bad
  pub printed : Took out (invalid_line bad)

-- what each verdict promises; the others have their causes in what is reported
abbrev pub Promises : List (List ℕ) → (List ℕ → Held) → Output → Verdict → Type 0
Promises words held out (Verdict.Accepted c) = AcceptsSource words held out c
Promises words held out (Verdict.Conflict ks) = RefutesSource words held out ks
Promises words held out (Verdict.Undecided d) = LeavesSourceOpen words held out d
Promises words held out Verdict.Valid = VerifiesText words held out
Promises words held out (Verdict.Invalid bad) = FaultsText words held out bad
Promises words held out (Verdict.Refused r) = ⊤
Promises words held out Verdict.ReadFault = ⊤
Promises words held out Verdict.WriteFault = ⊤
Promises words held out Verdict.Usage = ⊤
Promises words held out Verdict.NoMemory = ⊤

-- ---- when there is one

-- a source is told that is not too long, and no refusal has a cause: it is in the profile of C and within the limits
pub record HoldsSource (h : Held) : Type 0 where
  pub bytes : List ℕ
  pub told : h ≡ Whole bytes
  pub short : length bytes ≤ most_bytes
  pub allowed : (r : Refusal) → IsCause bytes r → ⊥

-- a text is told that is not too long
pub record HoldsText (h : Held) : Type 0 where
  pub bytes : List ℕ
  pub told : h ≡ Whole bytes
  pub short : length bytes ≤ most_text_bytes

-- what a task is about is there
abbrev pub IsThere : (List ℕ → Held) → Task → Type 0
IsThere held (check name) = HoldsSource (held name)
IsThere held (prove name) = HoldsSource (held name)
IsThere held (verify file name) = HoldsSource (held file) × HoldsText (held name)
IsThere held (sample count) = (r : Refusal) → IsCause (sample_text count) r → ⊥

-- no count of faults rose
pub record NoFaults (before after : ℕ) (out err : Output) : Type 0 where
  pub files : Rose before after → ⊥
  pub out_none : Rose out.faults_before out.faults_after → ⊥
  pub err_none : Rose err.faults_before err.faults_after → ⊥

-- the source is judged, or memory was wanting
abbrev pub IsOnSource : Verdict → Type 0
IsOnSource (Verdict.Accepted c) = ⊤
IsOnSource (Verdict.Conflict ks) = ⊤
IsOnSource (Verdict.Undecided d) = ⊤
IsOnSource Verdict.NoMemory = ⊤
IsOnSource Verdict.Valid = ⊥
IsOnSource (Verdict.Invalid bad) = ⊥
IsOnSource (Verdict.Refused r) = ⊥
IsOnSource Verdict.ReadFault = ⊥
IsOnSource Verdict.WriteFault = ⊥
IsOnSource Verdict.Usage = ⊥

-- the text is, or memory was wanting
abbrev pub IsOnText : Verdict → Type 0
IsOnText Verdict.Valid = ⊤
IsOnText (Verdict.Invalid bad) = ⊤
IsOnText Verdict.NoMemory = ⊤
IsOnText (Verdict.Accepted c) = ⊥
IsOnText (Verdict.Conflict ks) = ⊥
IsOnText (Verdict.Undecided d) = ⊥
IsOnText (Verdict.Refused r) = ⊥
IsOnText Verdict.ReadFault = ⊥
IsOnText Verdict.WriteFault = ⊥
IsOnText Verdict.Usage = ⊥

abbrev pub IsVerdictOf : Task → Verdict → Type 0
IsVerdictOf (check name) v = IsOnSource v
IsVerdictOf (prove name) v = IsOnSource v
IsVerdictOf (verify file name) v = IsOnText v
IsVerdictOf (sample count) v = IsOnSource v

-- with words that are a command, what it is about there, and no fault, there is a verdict on it
abbrev pub IsDecided : List (List ℕ) → (List ℕ → Held) → ℕ → ℕ → Output → Output → Verdict → Type 0
IsDecided words held before after out err v =
    (a : Asked) → asked_command words ≡ Some a → IsThere held a.task → NoFaults before after out err → IsVerdictOf a.task v

-- with words that are none, the words are refused, or memory was wanting, or the text was not written whole
abbrev pub IsOnWords : Verdict → Type 0
IsOnWords Verdict.Usage = ⊤
IsOnWords Verdict.NoMemory = ⊤
IsOnWords Verdict.WriteFault = ⊤
IsOnWords (Verdict.Accepted c) = ⊥
IsOnWords (Verdict.Conflict ks) = ⊥
IsOnWords (Verdict.Undecided d) = ⊥
IsOnWords Verdict.Valid = ⊥
IsOnWords (Verdict.Invalid bad) = ⊥
IsOnWords (Verdict.Refused r) = ⊥
IsOnWords Verdict.ReadFault = ⊥
