-- Places in memory, and as places of a system.
use Rattle.std.specs.Prelude.{ℕ, List, map}
use Rattle.std.specs.List.{range_with_len}
use Rattle.verdict_meaning.specs.Certificates.{Spot}
use Rattle.cert_checker.specs.declared.places.Place.{Place}

abbrev pub spot_at : Place → Spot
spot_at p = record { proc = p.proc; place = p.place }

-- so many places of a procedure
abbrev pub spots_from : ℕ → ℕ → List Spot
spots_from proc count = map (λ q. record { proc = proc; place = q }) (range_with_len 0 count)
