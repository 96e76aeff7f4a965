use Rattle.clouseau_core.proofs.Verdicts.{to_test_of, tested_of}
use Rattle.clouseau_core.proofs.judging.tested.Goals as goal

pub test-requires : goal.test-requires
test-requires c = to_test_of c.args.program.now c.args.budget c.in_ok-inferred.inferred c.in_ok-inferred.ensures

pub returns : goal.returns
returns c =
    tested_of c.good_is_satisfiable.ensures c.args.program.now c.args.budget c.in_ok-inferred.inferred c.in_ok-inferred.ensures c.in_ok-test.ensures
