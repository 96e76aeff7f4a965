use Rattle.clouseau_core.proofs.Verdicts.{valid_of}
use Rattle.clouseau_core.proofs.judging.test.Goals as goal

pub test_derivation-requires-clause-valid : goal.test_derivation-requires-clause-valid
test_derivation-requires-clause-valid c = valid_of c.args.program.now c.args.inferred.now _ _ c.in-Refuted.is c.requires
