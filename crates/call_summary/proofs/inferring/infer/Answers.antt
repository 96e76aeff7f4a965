use Rattle.transfer_rules.specs.Names.{in_scope}
use Rattle.verdict_meaning.specs.Programs.{system_in}
use Rattle.verdict_meaning.specs.Solutions.{all_names}
use Rattle.call_summary.proofs.Alike.{same_answer}
use Rattle.call_summary.proofs.Whole.{whole_alike}
use Rattle.call_summary.proofs.inferring.infer.Goals as goal

pub returns : goal.returns
returns c =
    same_answer (system_in c.args.program.now) (in_scope c.whole_scope-scope.result) all_names (whole_alike c.args.program.now c.whole_scope-scope.result c.whole_scope-scope.ensures) c.args.budget c.args.budget
    c.in_ok-inferred.inferred c.in_ok-inferred.ensures
