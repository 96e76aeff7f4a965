use Rattle.proof_checker.proofs.GroupLemmas.{group_is}
use Rattle.proof_checker.proofs.NumberLemmas.{member_range}
use Rattle.proof_checker.proofs.in_scope.interface.Goals as goal

pub returns : goal.returns
returns c =
    let p = c.args.program.now in
    let is = c.system_is_of_graph.ensures p.graph p.facts p.groups c.law.ensures.fits c.law.ensures.groups in
    let group = group_is p.graph p.groups c.law.ensures.groups c.args.callee.group c.requires.group in
    member_range p c.law.ensures is c.args.callee.group c.args.callee.proc c.numbering.result.now c.face.result c.requires.group (c.unknown_laws.ensures.together p.graph _ group.ascend) c.requires.member c.numbering.ensures c.face.ensures.range
