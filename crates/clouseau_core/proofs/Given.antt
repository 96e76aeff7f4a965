-- Giving nothing leaves what was given, and counts that rose in a part of a call rose in the call.
use Rattle.std.proofs.Common.{ℕ, ◌≤◌, ◌<◌, List, [], Option, Some, None, sym, append-nil, inl, inr, arith}
use Rattle.std.specs.Io.KnownBytes.{Appends}
use Rattle.io_edge.specs.Held.{Held, Untold, Absent, Whole}
use Rattle.io_edge.specs.Faults.{Rose}
use Rattle.io_edge.specs.Reading.{IsOver}
use Rattle.source_program.specs.Loading.{IsLonger}

pub appends_nothing : (given : Option (List ℕ)) → Appends given given []
appends_nothing None = tt
appends_nothing (Some bytes) = sym (append-nil bytes)

-- a file of which more bytes were taken than it may have has more of them
pub longer : (h : Held) (left : Option (List ℕ)) (most : ℕ) → IsOver h left most → IsLonger h most
longer Untold left most o = tt
longer Absent left most o = absurd o
longer (Whole content) left most o = o.0

pub rose_later : (before mid after : ℕ) → before ≤ mid → Rose mid after → Rose before after
rose_later before mid after le (inl less) = inl (omega (arith, le, less))
rose_later before mid after le (inr most) = inr most
