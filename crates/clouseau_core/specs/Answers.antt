-- What a command answers: a verdict with its cause, the text on `out` and the text on `err`. One of the texts is empty.
use Rattle.std.specs.Prelude.{◌≡◌, ℕ, ◌≤◌, ◌⊎◌, List, [], Some, None, length}
use Rattle.io_edge.specs.Held.{Held, Absent}
use Rattle.io_edge.specs.Faults.{Rose}
use Rattle.io_edge.specs.Reading.{IsContent}
use Rattle.conflict_proof.specs.declared.faults.BadLine.{BadLine}
use Rattle.transfer_rules.specs.Programs.{Parts}
use Rattle.source_program.specs.declared.refusal.Refusal.{Refusal}
use Rattle.source_program.specs.declared.loading.LoadError.{LoadError}
use Rattle.source_program.specs.Sources.{IsCause, IsProgramOf}
use Rattle.source_program.specs.Texts.{refusal_line}
use Rattle.source_program.specs.Loading.{IsLonger, IsLoaded, IsRefusedFile}
use Rattle.text_checker.specs.Verified.{IsValidText, IsInvalid}
use Rattle.command_words.specs.Asked.{Task, check, prove, verify, sample, Asked, asked_command}
use Rattle.command_words.specs.Sample.{sample_text}
use Rattle.clouseau_core.specs.declared.report.Verdict.{Verdict}
use Rattle.clouseau_core.specs.declared.way.Way.{Way}
use Rattle.clouseau_core.specs.declared.way.Way.TheVariants as way
use Rattle.clouseau_core.specs.Texts.{usage_line, memory_line, unread_line, long_line, valid_line, invalid_line}
use Rattle.clouseau_core.specs.Judged.{IsJudged}

-- the most bytes that a text on a source may have
abbrev pub most_text_bytes : ℕ
most_text_bytes = 268435456

-- The files hold `held` under each name. Their count of faults was `before` at the call and is `after` at its end.

-- why there is no program of the source under a name, and the text on `err`
pub data IsUnloaded (held : List ℕ → Held) (before after : ℕ) (name : List ℕ) : Verdict → List ℕ → Type 0 where
  read_fault : (held name ≡ Absent) ⊎ Rose before after → IsUnloaded held before after name Verdict.ReadFault (unread_line name)
  refused : (r : Refusal) (line : List ℕ) → IsRefusedFile (held name) name r line → IsUnloaded held before after name (Verdict.Refused r) line

-- why there is no text under a name
pub data IsUnread (held : List ℕ → Held) (before after : ℕ) (name : List ℕ) : Verdict → List ℕ → Type 0 where
  read_fault : (held name ≡ Absent) ⊎ Rose before after → IsUnread held before after name Verdict.ReadFault (unread_line name)
  too_long : IsLonger (held name) most_text_bytes → IsUnread held before after name (Verdict.Refused Refusal.TooLong) (long_line name)

-- whether the bytes show a verdict on the program, and the text on `out`
pub data IsVerdictOnText (p : Parts) (bytes : List ℕ) : Verdict → List ℕ → Type 0 where
  valid : IsValidText p bytes → IsVerdictOnText p bytes Verdict.Valid valid_line
  invalid : (bad : BadLine) → IsInvalid p bytes bad → IsVerdictOnText p bytes (Verdict.Invalid bad) (invalid_line bad)

-- `check` and `prove`: the source under a name is judged
pub data IsOnFile (w : Way) (budget : ℕ) (held : List ℕ → Held) (before after : ℕ) (name : List ℕ) : Verdict → List ℕ → List ℕ → Type 0 where
  unloaded : (v : Verdict) (e : List ℕ) → IsUnloaded held before after name v e → IsOnFile w budget held before after name v [] e
  judged : (p : Parts) (v : Verdict) (o : List ℕ) → IsLoaded (held name) p → IsJudged w budget p v o → IsOnFile w budget held before after name v o []

-- the text under a name is read and checked against a program
pub data IsTextAnswer (p : Parts) (held : List ℕ → Held) (before after : ℕ) (name : List ℕ) : Verdict → List ℕ → List ℕ → Type 0 where
  unread : (v : Verdict) (e : List ℕ) → IsUnread held before after name v e → IsTextAnswer p held before after name v [] e
  verified : (bytes : List ℕ) (v : Verdict) (o : List ℕ) → IsContent (held name) bytes → length bytes ≤ most_text_bytes
      → IsVerdictOnText p bytes v o → IsTextAnswer p held before after name v o []

-- `verify`: the text under a name is checked against the program of a source, which is loaded first
pub data IsOnText (held : List ℕ → Held) (before after : ℕ) (file name : List ℕ) : Verdict → List ℕ → List ℕ → Type 0 where
  unloaded : (v : Verdict) (e : List ℕ) → IsUnloaded held before after file v e → IsOnText held before after file name v [] e
  loaded : (p : Parts) (v : Verdict) (o e : List ℕ) → IsLoaded (held file) p → IsTextAnswer p held before after name v o e
      → IsOnText held before after file name v o e

-- `sample`: the sample's text is judged as a source that has no name
pub data IsOnSample (count budget : ℕ) : Verdict → List ℕ → List ℕ → Type 0 where
  refused : (r : Refusal) → IsCause (sample_text count) r → IsOnSample count budget (Verdict.Refused r) [] (refusal_line (sample_text count) [] r)
  judged : (p : Parts) (v : Verdict) (o : List ℕ) → IsProgramOf (sample_text count) p → IsJudged (way.Sample count) budget p v o
      → IsOnSample count budget v o []

-- a task is done
abbrev pub IsDone : Task → ℕ → (List ℕ → Held) → ℕ → ℕ → Verdict → List ℕ → List ℕ → Type 0
IsDone (check name) budget held before after v o e = IsOnFile way.Check budget held before after name v o e
IsDone (prove name) budget held before after v o e = IsOnFile way.Prove budget held before after name v o e
IsDone (verify file name) budget held before after v o e = IsOnText held before after file name v o e
IsDone (sample count) budget held before after v o e = IsOnSample count budget v o e

-- the words are no command, or what they ask for is done; want of memory may come at any point
pub data IsAnswer (words : List (List ℕ)) (held : List ℕ → Held) (before after : ℕ) : Verdict → List ℕ → List ℕ → Type 0 where
  usage : asked_command words ≡ None → IsAnswer words held before after Verdict.Usage [] usage_line
  done : (a : Asked) (v : Verdict) (o e : List ℕ) → asked_command words ≡ Some a → IsDone a.task a.budget held before after v o e
      → IsAnswer words held before after v o e
  no_memory : IsAnswer words held before after Verdict.NoMemory [] memory_line

-- what an error of loading is answered with
abbrev pub IsErrorText : List ℕ → LoadError → Verdict → List ℕ → Type 0
IsErrorText name LoadError.Memory v e = ⊥
IsErrorText name LoadError.ReadFault v e = (v ≡ Verdict.ReadFault) × (e ≡ unread_line name)
IsErrorText name (LoadError.Refused r line) v e = (v ≡ Verdict.Refused r) × (e ≡ line)
