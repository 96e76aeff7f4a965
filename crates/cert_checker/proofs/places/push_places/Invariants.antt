use Rattle.std.proofs.Common.{◌≡◌, ◌++◌, map}
use Rattle.cert_checker.specs.Places.{spot_at, spots_from}
use Rattle.cert_checker.proofs.places.push_places.Given as goal

abbrev pub invariant-loop-place : goal.invariant-loop-place
invariant-loop-place l = map spot_at l.places.items ≡ map spot_at l.fn.places.items ++ spots_from l.proc l.place
