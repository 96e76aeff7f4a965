use Rattle.std.proofs.Common.{◌+◌, length, Option, refl, subst, arith}
use Rattle.conflict_proof.specs.declared.faults.Reason.{Reason}
use Rattle.conflict_proof.specs.declared.faults.Reason.TheVariants.{NoRefutation}
use Rattle.conflict_proof.specs.declared.faults.BadLine.{BadLine}
use Rattle.proof_checker.specs.Checking.{IsLineVerdict}
use Rattle.proof_checker.proofs.LineLemmas.{one_more, all_valid, first_at, first_at_end, match_true, match_false}
use Rattle.proof_checker.proofs.faults.first_fault.Goals as goal

pub returns-in-Some : goal.returns-in-Some
returns-in-Some g c =
    let P : Option Reason → Type 0 = λ o. IsLineVerdict (g.C.Constraints.system c.args.constraints.now) (g.C.Constraints.scope c.args.constraints.now) c.args.lines.now (c.loop-k.k + 1) o in
    let bad : BadLine = record { line = c.loop-k.k + 2; reason = c.in-Some.reason } in
    first_at _ _ c.args.lines.now c.loop-k.k bad (omega arith) c.loop-k.invariant (subst P c.in-Some.is c.in_ok-reason.ensures) refl

pub loop-k-preserved : goal.loop-k-preserved
loop-k-preserved g c =
    let P : Option Reason → Type 0 = λ o. IsLineVerdict (g.C.Constraints.system c.args.constraints.now) (g.C.Constraints.scope c.args.constraints.now) c.args.lines.now (c.loop-k.k + 1) o in
    one_more _ _ c.args.lines.now c.loop-k.k c.loop-k.invariant (subst P c.in_default.is c.in_ok-reason.ensures)

pub returns-then-refutes : goal.returns-then-refutes
returns-then-refutes g c =
    (all_valid _ _ c.args.lines.now c.loop-k.k (omega arith) c.loop-k.invariant, match_true c.refutes.result _ _ c.if-refutes.true c.refutes.ensures)

pub returns : goal.returns
returns g c =
    let bad : BadLine = record { line = length c.args.lines.now + 2; reason = NoRefutation } in
    first_at_end _ _ c.args.lines.now bad (all_valid _ _ c.args.lines.now c.loop-k.k (omega arith) c.loop-k.invariant) (match_false c.refutes.result _ _ c.if-refutes.false c.refutes.ensures) refl refl
