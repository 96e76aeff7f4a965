use Rattle.transfer_rules.specs.Programs.{group_at}
use Rattle.program_shapes.proofs.Members.{width_is, group_ascends, member_body, some_place}
use Rattle.program_shapes.proofs.procs.width_of.Goals as goal

pub returns : goal.returns
returns c =
    let p = c.args.program.now in
    width_is p.graph p.groups c.args.group c.numbering.result.now c.numbering.ensures
    (c.unknown_laws.ensures.together p.graph (group_at p.groups c.args.group) (group_ascends p.graph p.groups c.args.group c.law.ensures.groups c.requires.group))
    c.args.proc c.row.result c.requires.member
    (some_place p.graph c.args.proc c.law.ensures.fits (member_body p.graph p.groups c.args.group c.args.proc c.law.ensures.groups c.requires.group c.requires.member))
    c.row.ensures.range
