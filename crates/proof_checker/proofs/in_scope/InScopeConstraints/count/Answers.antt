use Rattle.std.proofs.Common.{ap, length, ◌∙◌}
use Rattle.proof_checker.proofs.NumberLemmas.{many}
use Rattle.proof_checker.proofs.in_scope.InScopeConstraints.count.Goals as goal

pub returns : goal.returns
returns c =
    let p = c.args.self.now.program.now in
    let is = c.system_is_of_graph.ensures p.graph p.facts p.groups c.law.ensures.fits c.law.ensures.groups in
    c.count.ensures.count ∙ ap length c.numbering.ensures ∙ many p c.law.ensures is c.args.group c.requires
