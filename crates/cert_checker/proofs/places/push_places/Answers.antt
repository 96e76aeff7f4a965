use Rattle.std.proofs.Common.{◌≡◌, ℕ, zero, suc, ◌+◌, List, [], ◌∷◌, ◌++◌, refl, sym, ap, ◌∙◌, map, append_assoc}
use Rattle.verdict_meaning.specs.Certificates.{Spot}
use Rattle.cert_checker.specs.declared.places.Place.{Place}
use Rattle.cert_checker.specs.Places.{spot_at, spots_from}
use Rattle.cert_checker.proofs.ShapeLemmas.{one_more_spot}
use Rattle.cert_checker.proofs.places.push_places.Goals as goal

pub loop-place-preserved : goal.loop-place-preserved
loop-place-preserved c =
    one_more_spot c.args.places.now.items c.loop-place.places.items c.push.new.self.items c.args.proc c.loop-place.place c.loop-place.invariant c.in_ok-push.ensures.items
