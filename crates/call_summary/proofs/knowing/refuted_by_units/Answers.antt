use Rattle.std.proofs.Common.{rules, ◌≡◌, ◌++◌, List, length, map, ap, ◌∙◌}
use Rattle.conflict_proof.specs.declared.derivation.Line.{Line}
use Rattle.call_summary.specs.Knowing.{shifted}
use Rattle.call_summary.proofs.Fronts.{units_refute}
use Rattle.call_summary.proofs.knowing.refuted_by_units.Goals as goal

pub refuted_by-requires-clause-refutation : goal.refuted_by-requires-clause-refutation
refuted_by-requires-clause-refutation g c =
    let same : c.as_slice.result.now ≡ c.args.derivation.now.lines = search rules in
    units_refute (g.G.Shapes.system c.args.groups.now) (g.G.Groups.counting c.args.groups.now) c.args.known.now c.args.budget c.args.derivation.now.lines c.in_ok-behind.behind.lines c.requires.known c.requires.units
    (c.in_ok-behind.ensures ∙ ap (λ (ls : List Line). c.args.known.now ++ map (shifted (length c.args.known.now)) ls) same)
