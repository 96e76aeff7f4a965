-- What giving bytes to a sink leaves when it stops half way, where the sink tells what it got.
use Rattle.std.specs.Prelude.{ℕ, ◌<◌, Option, List, take, length}
use Rattle.std.specs.Io.KnownBytes.{Appends}

-- the sink was given a part of the bytes, from the front on, and not all of them
abbrev pub AppendsPart : Option (List ℕ) → Option (List ℕ) → List ℕ → Type 0
AppendsPart old new bytes = (n : ℕ) × (n < length bytes) × Appends old new (take n bytes)
