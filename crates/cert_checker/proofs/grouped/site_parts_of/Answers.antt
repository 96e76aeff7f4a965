use Rattle.cert_checker.proofs.ProgramLemmas.{site_count, group_ascends}
use Rattle.transfer_rules.specs.Programs.{group_at}
use Rattle.cert_checker.proofs.grouped.site_parts_of.Goals as goal

pub returns : goal.returns
returns c =
    let p = c.args.program.now in
    site_count p.graph p.facts p.groups c.args.group c.numbering_of.result.now c.numbering_of.ensures
    (c.unknown_laws.ensures.together p.graph (group_at p.groups c.args.group) (group_ascends p.graph p.groups c.args.group c.law.ensures.groups c.requires.group))
    c.args.site c.site_face.result c.requires.site c.site_face.ensures.range
