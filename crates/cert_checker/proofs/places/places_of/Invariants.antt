use Rattle.std.proofs.Common.{◌≡◌, map, take}
use Rattle.std.specs.List.{flat_map}
use Rattle.verdict_meaning.specs.Certificates.{spots_of}
use Rattle.cert_checker.specs.Places.{spot_at}
use Rattle.cert_checker.proofs.places.places_of.Given as goal

abbrev pub invariant-loop-proc : goal.invariant-loop-proc
invariant-loop-proc g l = map spot_at l.places.items ≡ flat_map (spots_of (g.G.Groups.system l.groups)) (take l.proc-index l.members)
