use Rattle.proof_checker.proofs.GroupLemmas.{group_is}
use Rattle.proof_checker.proofs.groups.members_of.Goals as goal

pub returns-clause-group : goal.returns-clause-group
returns-clause-group c = group_is c.args.program.now.graph c.args.program.now.groups c.law.ensures.groups c.args.group c.requires
