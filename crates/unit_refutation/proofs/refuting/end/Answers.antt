use Rattle.std.proofs.Common.{[], ℕ, length, Option, Some, None, arith, sym, subst, ◌∙◌}
use Rattle.conflict_proof.specs.declared.derivation.How.TheVariants.{Resolve, Inst}
use Rattle.unit_refutation.specs.Lines.{Puts}
use Rattle.unit_refutation.proofs.EndLemmas.{empty_over, whole_there, root_over, whole_carried}
use Rattle.unit_refutation.proofs.refuting.end.Goals as goal

pub returns-in_default-clause-ends : goal.returns-in_default-clause-ends
returns-in_default-clause-ends c =
    let put = subst (λ (n : Option ℕ). Puts c.args.group (Resolve c.args.first c.args.second) [] c.args.writer.now c.put.new.self n) c.in_default.is c.in_ok-empty.ensures in
    λ s U trail lit e le h a b.
    empty_over s U trail (length trail) c.args.writer.now c.put.new.self c.args.group c.args.first c.args.second lit h (omega (arith, e, le)) a b c.requires put

pub returns-then-group-root-clause-ends : goal.returns-then-group-root-clause-ends
returns-then-group-root-clause-ends c =
    let put = subst (λ (n : Option ℕ). Puts c.args.group (Resolve c.args.first c.args.second) [] c.args.writer.now c.put.new.self n) c.in-Some.is c.in_ok-empty.ensures in
    λ s U trail lit e le h a b.
    whole_there s U trail (length trail) c.args.writer.now c.put.new.self c.args.group c.args.first c.args.second c.in-Some.empty lit h (omega (arith, e, le)) a b c.requires put (c.if-group-root.true ∙ sym e)

pub returns-in-None-clause-ends : goal.returns-in-None-clause-ends
returns-in-None-clause-ends c =
    let first = subst (λ (n : Option ℕ). Puts c.args.group (Resolve c.args.first c.args.second) [] c.args.writer.now c.put.new.self n) c.in-Some.is c.in_ok-empty.ensures in
    let second = subst (λ (n : Option ℕ). Puts c.args.root (Inst c.in-Some.empty c.args.group) [] c.put.new.self c.put-2.new.self n) c.in-None.is c.in_ok-put.ensures in
    λ s U trail lit e le h a b.
    root_over s U trail (length trail) c.args.writer.now c.put.new.self c.put-2.new.self c.args.group c.args.first c.args.second c.in-Some.empty lit h (omega (arith, e, le)) a b c.requires first
    (λ q. c.if-group-root.false (q ∙ e))
    (subst (λ (r : ℕ). Puts r (Inst c.in-Some.empty c.args.group) [] c.put.new.self c.put-2.new.self None) (sym e) second)

pub returns-in-Some-2-clause-ends : goal.returns-in-Some-2-clause-ends
returns-in-Some-2-clause-ends c =
    let first = subst (λ (n : Option ℕ). Puts c.args.group (Resolve c.args.first c.args.second) [] c.args.writer.now c.put.new.self n) c.in-Some.is c.in_ok-empty.ensures in
    let second = subst (λ (n : Option ℕ). Puts c.args.root (Inst c.in-Some.empty c.args.group) [] c.put.new.self c.put-2.new.self n) c.in-Some-2.is c.in_ok-put.ensures in
    λ s U trail lit e le h a b.
    whole_carried s U trail (length trail) c.args.writer.now c.put.new.self c.put-2.new.self c.args.group c.args.first c.args.second c.in-Some.empty c.in-Some-2.field-0 lit h (omega (arith, e, le)) a b c.requires first
    (λ q. c.if-group-root.false (q ∙ e))
    (subst (λ (r : ℕ). Puts r (Inst c.in-Some.empty c.args.group) [] c.put.new.self c.put-2.new.self (Some c.in-Some-2.field-0)) (sym e) second)
