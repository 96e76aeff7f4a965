use Rattle.proof_checker.proofs.NameLemmas.{answered}
use Rattle.proof_checker.proofs.in_scope.InScopeConstraints.clauses.Goals as goal

pub returns : goal.returns
returns c = answered (λ v. v.items) c.args.self.now.program.now c.args.group c.args.name.now c.requires c.clauses_of.result c.clauses_of.ensures
