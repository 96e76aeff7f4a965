use Rattle.std.proofs.Common.{◌≡◌, ℕ, ◌-◌, ap, ◌∙◌}
use Rattle.cert_checker.proofs.ProgramLemmas.{face_count, face_start, group_ascends}
use Rattle.transfer_rules.specs.Programs.{group_at}
use Rattle.cert_checker.proofs.grouped.face_of.Goals as goal

pub returns-clause-count : goal.returns-clause-count
returns-clause-count c =
    let p = c.args.program.now in
    face_count p.graph p.facts p.groups c.args.group c.numbering_of.result.now c.numbering_of.ensures
    (c.unknown_laws.ensures.together p.graph (group_at p.groups c.args.group) (group_ascends p.graph p.groups c.args.group c.law.ensures.groups c.requires.group))
    c.args.proc c.face-range.result c.requires.member c.face-range.ensures.range

pub returns-clause-start : goal.returns-clause-start
returns-clause-start c =
    let p = c.args.program.now in
    λ some. c.saturating_sub-start.ensures ∙ ap (λ (k : ℕ). k - c.args.fields) c.saturating_sub.ensures ∙ ap (λ (k : ℕ). c.face-range.result.first - 1 - k) c.requires.fields
    ∙ face_start p.graph p.facts p.groups c.args.group c.numbering_of.result.now c.numbering_of.ensures
    (c.unknown_laws.ensures.together p.graph (group_at p.groups c.args.group) (group_ascends p.graph p.groups c.args.group c.law.ensures.groups c.requires.group))
    ((c.system_is_of_graph.ensures p.graph p.facts p.groups c.law.ensures.fits c.law.ensures.groups).numbers c.args.group c.requires.group)
    c.args.proc c.face-range.result c.requires.member c.face-range.ensures.range some
