use Rattle.std.proofs.Common.{◌+◌, ◌<◌, ◌≤◌, sym, subst}
use Rattle.zo_core.specs.declared.number_range.NumberRange.{NumberRange}
use Rattle.field_rules.proofs.place_lines.push_bounds.Goals as goal

pub phi-requires : goal.phi-requires
phi-requires g c =
    let v = g.V.View.sight c.args.view.now in
    let P : NumberRange → Type 0 = λ r. c.loop-j.j < r.count → (0 < r.first + c.loop-j.j) × (r.first + c.loop-j.j ≤ v.fields) in
    subst P (sym c.fields_of-range.ensures.range) (c.requires.place.ranges c.in-Some.structure c.loop-j.j) c.loop-j-test.true
