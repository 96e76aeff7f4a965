use Rattle.std.proofs.Common.{ℕ, Bool, ap, arith}
use Rattle.conflict_proof.specs.declared.names.ConstraintName.{ConstraintName}
use Rattle.transfer_rules.specs.Names.{in_scope}
use Rattle.verdict_meaning.specs.Programs.{system_in}
use Rattle.verdict_meaning.specs.Systems.{System}
use Rattle.call_summary.specs.Inferences.{AnswerIs, InferredIs}
use Rattle.call_summary.specs.Trims.{IsRefutationFor}
use Rattle.call_summary.proofs.Bounds.{spent_by_search}
use Rattle.call_summary.proofs.Judgements.{judged_refuted, judged_spent, if_ok}
use Rattle.call_summary.proofs.Left.{valid_stand_back}
use Rattle.call_summary.proofs.inferring.searched.Goals as goal

pub refuted-requires-clause-back : goal.refuted-requires-clause-back
refuted-requires-clause-back c =
    let s = system_in c.args.program.now in
    let U = in_scope c.args.scope.now in
    valid_stand_back s U c.in-Refuted.derivation.lines
    (judged_refuted (system_in c.in_ok-groups.groups.shapes.program.now) s (in_scope c.in_ok-groups.groups.scope.now) U c.new.result.items c.args.budget c.in_ok-certificate.field-0 c.in-Refuted.derivation
    (ap system_in c.in_ok-groups.ensures.program) (ap in_scope c.in_ok-groups.ensures.scope) c.new.ensures.items c.in-Refuted.is c.in_ok-certificate.ensures).valid

pub returns-in-Refuted : goal.returns-in-Refuted
returns-in-Refuted c =
    let s = system_in c.args.program.now in
    let U = in_scope c.args.scope.now in
    let is : IsRefutationFor s U c.args.budget c.in-Refuted.derivation.lines =
    judged_refuted (system_in c.in_ok-groups.groups.shapes.program.now) s (in_scope c.in_ok-groups.groups.scope.now) U c.new.result.items c.args.budget c.in_ok-certificate.field-0 c.in-Refuted.derivation
    (ap system_in c.in_ok-groups.ensures.program) (ap in_scope c.in_ok-groups.ensures.scope) c.new.ensures.items c.in-Refuted.is c.in_ok-certificate.ensures in
    if_ok c.refuted.result
    (λ i. (t : System) → (V : ConstraintName → Bool) → (words : ℕ) → (budget : ℕ) → IsRefutationFor t V words c.in-Refuted.derivation.lines → AnswerIs t V words budget i)
    (InferredIs s U c.args.budget) (λ i f. f s U c.args.budget c.args.budget is) c.refuted.ensures.answer

pub returns : goal.returns
returns c =
    let s = system_in c.args.program.now in
    let U = in_scope c.args.scope.now in
    spent_by_search c.laws.ensures.bound s U c.in-Undecided.derivation.lines c.args.budget c.args.budget (omega arith) c.requires.units c.requires.plain
    (judged_spent (system_in c.in_ok-groups.groups.shapes.program.now) s (in_scope c.in_ok-groups.groups.scope.now) U c.new.result.items c.args.budget c.in_ok-certificate.field-0 c.in-Undecided.derivation
    (ap system_in c.in_ok-groups.ensures.program) (ap in_scope c.in_ok-groups.ensures.scope) c.new.ensures.items c.in-Undecided.is c.in_ok-certificate.ensures)
