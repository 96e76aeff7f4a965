-- What reading a whole file answers and what it leaves, where the files tell what they hold.
use Rattle.std.specs.Prelude.{◌≡◌, ℕ, ◌+◌, ◌<◌, ◌≤◌, List, Option, Some, drop, length, ⊤}
use Rattle.io_edge.specs.Held.{Held, Untold, Absent, Whole}

-- the bytes are those of the file
abbrev pub IsContent : Held → List ℕ → Type 0
IsContent Untold bytes = ⊤
IsContent Absent bytes = ⊥
IsContent (Whole content) bytes = bytes ≡ content

-- the file has more than `most` bytes, and just `most + 1` of them were taken
abbrev pub IsOver : Held → Option (List ℕ) → ℕ → Type 0
IsOver Untold left most = ⊤
IsOver Absent left most = ⊥
IsOver (Whole content) left most = (most < length content) × (left ≡ Some (drop (most + 1) content))

-- the file was opened, and at most `limit` of its bytes were taken, from the front on
abbrev pub TakesAtMost : Held → Option (List ℕ) → ℕ → Type 0
TakesAtMost Untold left limit = ⊤
TakesAtMost Absent left limit = ⊥
TakesAtMost (Whole content) left limit = (n : ℕ) × (n ≤ limit) × (left ≡ Some (drop n content))
