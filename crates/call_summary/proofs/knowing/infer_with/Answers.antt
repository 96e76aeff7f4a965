use Rattle.std.proofs.Common.{sym}
use Rattle.transfer_rules.specs.Names.{in_scope}
use Rattle.verdict_meaning.specs.Programs.{system_in}
use Rattle.verdict_meaning.specs.Solutions.{all_names}
use Rattle.call_summary.proofs.Knowns.{same_known, same_known_answer}
use Rattle.call_summary.proofs.Whole.{whole_alike}
use Rattle.call_summary.proofs.knowing.infer_with.Goals as goal

pub infer_known-requires-clause-known : goal.infer_known-requires-clause-known
infer_known-requires-clause-known c =
    same_known (system_in c.args.program.now) all_names (in_scope c.whole_scope-scope.result) (λ n name there. sym (whole_alike c.args.program.now c.whole_scope-scope.result c.whole_scope-scope.ensures n name there))
    c.args.known.now.lines c.requires.known

pub returns : goal.returns
returns c =
    same_known_answer (system_in c.args.program.now) (in_scope c.whole_scope-scope.result) all_names (whole_alike c.args.program.now c.whole_scope-scope.result c.whole_scope-scope.ensures) c.args.known.now.lines c.args.budget
    c.in_ok-answer.answer c.in_ok-answer.ensures
