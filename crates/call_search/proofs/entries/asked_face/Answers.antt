use Rattle.std.proofs.Common.{◌+◌, ◌≤◌, ◌∙◌, ap, sym, subst, length, arith}
use Rattle.verdict_meaning.specs.declared.callee.Callee.{Callee}
use Rattle.verdict_meaning.specs.Systems.{callee, callee_parts}
use Rattle.call_search.specs.Shapes.{IsThere, before_site}
use Rattle.call_search.proofs.Faces.{site_range, range_values}
use Rattle.call_search.proofs.entries.asked_face.Goals as goal

pub parts-requires : goal.parts-requires
parts-requires g c =
    subst (λ (k : Callee). IsThere (g.G.Shapes.system c.args.groups.now) k) (sym c.callee-callee.ensures) ((g.met.G.Shapes.shaped c.args.groups.now).there c.args.group c.args.site c.requires.site)

pub slice_bounds-result-end : goal.slice_bounds-result-end
slice_bounds-result-end g c =
    let le : c.before_site-from.result + c.parts.result ≤ length c.args.bits.now =
    site_range (g.G.Shapes.system c.args.groups.now) c.args.group c.args.site c.callee-callee.result c.before_site-from.result c.parts.result c.args.bits.now c.requires.site c.requires.size c.before_site-from.ensures c.callee-callee.ensures c.parts.ensures in
    omega arith

pub returns : goal.returns
returns g c =
    range_values c.args.bits.now c.before_site-from.result c.parts.result (before_site (g.G.Shapes.system c.args.groups.now) c.args.group c.args.site) (callee_parts (g.G.Shapes.system c.args.groups.now) (callee (g.G.Shapes.system c.args.groups.now) c.args.group c.args.site))
    c.before_site-from.ensures (c.parts.ensures ∙ ap (callee_parts (g.G.Shapes.system c.args.groups.now)) c.callee-callee.ensures)
    (site_range (g.G.Shapes.system c.args.groups.now) c.args.group c.args.site c.callee-callee.result c.before_site-from.result c.parts.result c.args.bits.now c.requires.site c.requires.size c.before_site-from.ensures c.callee-callee.ensures c.parts.ensures)
