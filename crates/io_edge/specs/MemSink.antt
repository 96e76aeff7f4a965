-- What a `MemSink` shows of itself.
use Rattle.std.specs.Prelude.{◌≡◌, ◌≤◌, ◌⊎◌, ℕ, List, length}
use Rattle.std.specs.List.{Contains}
use Rattle.io_edge.specs.Faults.{raised}
use Rattle.io_edge.specs.declared.memory_sink.MemSink.{MemSink}

-- the bytes given so far
abbrev pub given_of : MemSink → List ℕ
given_of s = s.bytes.items

-- the most bytes that can be given in all
abbrev pub room_of : MemSink → ℕ
room_of s = s.room

-- the most bytes that one call takes
abbrev pub piece_of : MemSink → ℕ
piece_of s = s.piece

-- the numbers of the calls that fail
abbrev pub failing_of : MemSink → List ℕ
failing_of s = s.failing

-- how many calls of `put` there were
abbrev pub calls_of : MemSink → ℕ
calls_of s = s.calls

-- how many calls of `put` failed
abbrev pub faults_of : MemSink → ℕ
faults_of s = s.faults

-- the next call is one of those that fail, or finds no room
abbrev pub IsFailing : MemSink → Type 0
IsFailing s = Contains (failing_of s) (raised (calls_of s)) ⊎ (room_of s ≤ length (given_of s))

-- the room, the piece and the failing calls stay as they were
pub record KeepsSettings (old new : MemSink) : Type 0 where
  pub room : room_of new ≡ room_of old
  pub piece : piece_of new ≡ piece_of old
  pub failing : failing_of new ≡ failing_of old
