use Rattle.std.proofs.Common.{◌-◌, ap, sym, arith}
use Rattle.lit_region.specs.Contents.{Contents}
use Rattle.lit_region.proofs.Layouts.{used_places, laid-at, IsPlaceAt, read}
use Rattle.lit_region.proofs.region.Region.get.Goals as goal

pub index-place-requires : goal.index-place-requires
index-place-requires c =
    let used = used_places _ _ _ _ _ _ _ c.args.self.now c.self.invariant c.self.view_is in
    let number = c.at.view_is in
    omega arith

pub slice_bounds-result-end-2 : goal.slice_bounds-result-end-2
slice_bounds-result-end-2 c =
    let used = used_places _ _ _ _ _ _ _ c.args.self.now c.self.invariant c.self.view_is in
    let number = c.at.view_is in
    let count = c.self.invariant.places_count in
    let at : IsPlaceAt 0 _ c.self.inside.places.items (c.at.inside.number - 1) c.index-place.result.now = laid-at 0 _ c.self.inside.places.items (c.at.inside.number - 1) c.index-place.result.now c.self.invariant.laid (omega arith) in
    let within = rw (sym c.index-place.ensures) at at.within in
    omega (arith, within, c.deref-2.ensures.len)

pub returns : goal.returns
returns c =
    let used = used_places _ _ _ _ _ _ _ c.args.self.now c.self.invariant c.self.view_is in
    let number = c.at.view_is in
    let count = c.self.invariant.places_count in
    rw (c.deref-2.ensures.value, ← c.at.view_is)
    (read c.self.inside.lits.items c.self.inside.places.items c.args.self.now.clauses c.at.inside.number c.index-place.result.now c.if-at-eq0.false (omega arith) c.index-place.ensures
    (ap (λ (r : Contents). r.clauses) c.self.view_is))
