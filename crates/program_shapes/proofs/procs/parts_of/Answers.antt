use Rattle.transfer_rules.specs.Programs.{group_at}
use Rattle.program_shapes.proofs.Members.{face_count, group_ascends}
use Rattle.program_shapes.proofs.procs.parts_of.Goals as goal

pub returns : goal.returns
returns c =
    let p = c.args.program.now in
    face_count p.graph p.groups c.args.group c.numbering.result.now c.numbering.ensures
    (c.unknown_laws.ensures.together p.graph (group_at p.groups c.args.group) (group_ascends p.graph p.groups c.args.group c.law.ensures.groups c.requires.group))
    c.args.proc c.face.result c.requires.member c.face.ensures.range
