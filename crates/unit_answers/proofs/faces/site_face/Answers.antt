use Rattle.std.proofs.Common.{ℕ, ◌+◌, subst}
use Rattle.zo_core.specs.declared.number_range.NumberRange.{NumberRange}
use Rattle.verdict_meaning.specs.Programs.{IsSystemOf, system_of}
use Rattle.unit_answers.specs.Layouts.{IsPart}
use Rattle.unit_answers.proofs.FaceNumbers.{site_face_is, ascends}
use Rattle.unit_answers.proofs.faces.site_face.Goals as goal

pub returns : goal.returns
returns c =
    let p = c.args.program.now in
    let of : IsSystemOf p.graph p.facts (system_of p.graph p.facts p.groups) = c.system_is_of_graph.ensures p.graph p.facts p.groups c.law.ensures.fits c.law.ensures.groups in
    let together = c.unknown_laws.ensures.together p.graph _ (ascends p.graph p.facts p.groups c.law.ensures.groups of c.args.group c.requires.group) in
    let part = subst (λ (n : ℕ). IsPart (n + 1) c.site_face-range.result.first c.site_face-range.result.count c.part.result) c.requires.fields c.part.ensures in
    site_face_is p.graph p.facts p.groups c.law.ensures.groups of c.args.group c.args.site c.requires.group c.requires.site together c.numbering.result.now c.numbering.ensures c.part.result
    (subst (λ (r : NumberRange). IsPart ((system_of p.graph p.facts p.groups).fields + 1) r.first r.count c.part.result) c.site_face-range.ensures.range part)
