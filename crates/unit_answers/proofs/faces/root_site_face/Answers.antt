use Rattle.std.proofs.Common.{ℕ, ◌+◌, subst}
use Rattle.zo_core.specs.declared.number_range.NumberRange.{NumberRange}
use Rattle.transfer_rules.specs.Programs.{firsts}
use Rattle.verdict_meaning.specs.Programs.{IsSystemOf, system_of}
use Rattle.unit_answers.specs.Layouts.{IsPart}
use Rattle.unit_answers.proofs.FaceNumbers.{root_face_is}
use Rattle.unit_answers.proofs.faces.root_site_face.Goals as goal

pub returns : goal.returns
returns c =
    let p = c.args.program.now in
    let of : IsSystemOf p.graph p.facts (system_of p.graph p.facts p.groups) = c.system_is_of_graph.ensures p.graph p.facts p.groups c.law.ensures.fits c.law.ensures.groups in
    let part = subst (λ (n : ℕ). IsPart (n + 1) c.site_face-range.result.first c.site_face-range.result.count c.part.result) c.requires.fields c.part.ensures in
    root_face_is p.graph p.facts p.groups c.law.ensures.groups of c.args.site c.requires.site (c.unknown_laws.ensures.root_numbers p.graph (firsts p.groups)) c.root_numbering.result.now c.root_numbering.ensures c.part.result
    (subst (λ (r : NumberRange). IsPart ((system_of p.graph p.facts p.groups).fields + 1) r.first r.count c.part.result) c.site_face-range.ensures.range part)
