use Rattle.std.proofs.Common.{rules, ◌≡◌, sym, ap}
use Rattle.transfer_rules.specs.Names.{in_scope}
use Rattle.verdict_meaning.specs.Programs.{system_in}
use Rattle.call_summary.proofs.Knowns.{known_moved, answer_moved}
use Rattle.call_summary.proofs.knowing.infer_known.Goals as goal

pub answered-requires-clause-known : goal.answered-requires-clause-known
answered-requires-clause-known c =
    let same : c.as_slice-lines.result.now ≡ c.args.known.now.lines = search rules in
    known_moved (system_in c.args.program.now) (system_in c.in_ok-groups.groups.shapes.program.now) (in_scope c.args.scope.now) (in_scope c.in_ok-groups.groups.scope.now) c.args.known.now.lines c.as_slice-lines.result.now
    (sym (ap system_in c.in_ok-groups.ensures.program)) (sym (ap in_scope c.in_ok-groups.ensures.scope)) (sym same) c.requires.known

pub returns : goal.returns
returns c =
    let same : c.as_slice-lines.result.now ≡ c.args.known.now.lines = search rules in
    answer_moved (system_in c.in_ok-groups.groups.shapes.program.now) (system_in c.args.program.now) (in_scope c.in_ok-groups.groups.scope.now) (in_scope c.args.scope.now) c.as_slice-lines.result.now c.args.known.now.lines c.args.budget
    c.in_ok-answer.answer (ap system_in c.in_ok-groups.ensures.program) (ap in_scope c.in_ok-groups.ensures.scope) same c.in_ok-answer.ensures
