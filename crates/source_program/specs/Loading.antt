-- What comes of loading the source that files hold under a name.
use Rattle.std.specs.Prelude.{◌≡◌, ℕ, ◌<◌, ◌≤◌, ◌⊎◌, ⊤, List, length, codes}
use Rattle.io_edge.specs.Held.{Held, Untold, Absent, Whole}
use Rattle.io_edge.specs.Faults.{Rose}
use Rattle.io_edge.specs.Reading.{IsContent}
use Rattle.transfer_rules.specs.Programs.{Parts}
use Rattle.source_program.specs.declared.refusal.Refusal.{Refusal}
use Rattle.source_program.specs.declared.loading.LoadError.{LoadError}
use Rattle.source_program.specs.Sources.{most_bytes, IsCause, IsProgramOf}
use Rattle.source_program.specs.Texts.{line_on, refusal_line}

-- the file has more than `most` bytes, where it tells them
abbrev pub IsLonger : Held → ℕ → Type 0
IsLonger Untold most = ⊤
IsLonger Absent most = ⊥
IsLonger (Whole content) most = most < length content

-- the file has a source whose program is this one
pub record IsLoaded (held : Held) (p : Parts) : Type 0 where
  pub bytes : List ℕ
  pub content : IsContent held bytes
  pub short : length bytes ≤ most_bytes
  pub program : IsProgramOf bytes p

-- The refusal of the source under a name, and the line that says so: the file is too long, or its bytes have a cause
pub data IsRefusedFile (held : Held) (name : List ℕ) : Refusal → List ℕ → Type 0 where
  too_long : IsLonger held most_bytes → IsRefusedFile held name Refusal.TooLong (line_on (codes "too long: ") name)
  refused : (bytes : List ℕ) (r : Refusal) → IsContent held bytes → length bytes ≤ most_bytes → IsCause bytes r
      → IsRefusedFile held name r (refusal_line bytes name r)

-- The cause of each error. The count of the files' faults was `before` and is `after`.
abbrev pub IsLoadFailure : Held → List ℕ → ℕ → ℕ → LoadError → Type 0
IsLoadFailure held name before after LoadError.Memory = ⊤
IsLoadFailure held name before after LoadError.ReadFault = (held ≡ Absent) ⊎ Rose before after
IsLoadFailure held name before after (LoadError.Refused refusal text) = IsRefusedFile held name refusal text

-- the refusal with its line, or want of memory
abbrev pub IsSaid : Refusal → List ℕ → LoadError → Type 0
IsSaid r line LoadError.Memory = ⊤
IsSaid r line LoadError.ReadFault = ⊥
IsSaid r line (LoadError.Refused refusal text) = (refusal ≡ r) × (text ≡ line)
