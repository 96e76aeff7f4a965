-- What a `MemFiles` shows of itself.
use Rattle.std.specs.Prelude.{◌≡◌, ℕ, List}
use Rattle.std.specs.List.{Contains}
use Rattle.io_edge.specs.Faults.{raised}
use Rattle.io_edge.specs.Memory.{rest_of}
use Rattle.io_edge.specs.declared.lists.NamedFile.{NamedFile}
use Rattle.io_edge.specs.declared.memory_files.MemFiles.{MemFiles}

-- the records, in order
abbrev pub files_of : MemFiles → List NamedFile
files_of s = s.files

-- the most bytes that one call gives
abbrev pub piece_of : MemFiles → ℕ
piece_of s = s.piece

-- the numbers of the calls that fail
abbrev pub failing_of : MemFiles → List ℕ
failing_of s = s.failing

-- the bytes left of the open file
abbrev pub left_of : MemFiles → List ℕ
left_of s = rest_of s.files s.current s.at

-- how many calls of `open` and `next` there were
abbrev pub calls_of : MemFiles → ℕ
calls_of s = s.calls

-- how many calls failed because their numbers say so
abbrev pub faults_of : MemFiles → ℕ
faults_of s = s.faults

-- the next call is one of those that fail
abbrev pub IsFailing : MemFiles → Type 0
IsFailing s = Contains (failing_of s) (raised (calls_of s))

-- the records, the piece and the failing calls stay as they were
pub record KeepsSettings (old new : MemFiles) : Type 0 where
  pub files : files_of new ≡ files_of old
  pub piece : piece_of new ≡ piece_of old
  pub failing : failing_of new ≡ failing_of old
