use Rattle.std.proofs.Common.{arith}
use Rattle.proof_checker.proofs.NumberLemmas.{site_range, range_small}
use Rattle.proof_checker.proofs.in_scope.site_interface.Goals as goal

pub returns-clause-numbers : goal.returns-clause-numbers
returns-clause-numbers c =
    let p = c.args.program.now in
    let is = c.system_is_of_graph.ensures p.graph p.facts p.groups c.law.ensures.fits c.law.ensures.groups in
    site_range p c.law.ensures is (c.unknown_laws.ensures.together p.graph) (c.unknown_laws.ensures.root_numbers p.graph) c.args.group c.args.site c.numbering-numbers.result.now c.site_face.result c.requires.group c.requires.site c.numbering-numbers.ensures c.site_face.ensures.range

pub returns-clause-small : goal.returns-clause-small
returns-clause-small c =
    let le = range_small _ _ _ c.count.result c.site_face.ensures.range c.count.ensures.count in omega arith
