use Rattle.std.proofs.Common.{◌≡◌, ◌++◌, take}
use Rattle.verdict_meaning.specs.Certificates.{bits_at_places}
use Rattle.cert_checker.proofs.bits.push_place_bits.Given as goal

abbrev pub invariant-loop-row : goal.invariant-loop-row
invariant-loop-row l = l.bits.items ≡ l.fn.bits.items ++ bits_at_places (take l.row-index l.rows)
