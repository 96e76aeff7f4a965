use Rattle.std.proofs.Common.{◌≡◌, List, Option, None, Some, subst, rules}
use Rattle.conflict_proof.specs.declared.derivation.Line.{Line}
use Rattle.conflict_proof.specs.declared.faults.BadLine.{BadLine}
use Rattle.proof_checker.specs.Checking.{IsVerdict}
use Rattle.proof_checker.proofs.LineLemmas.{accepted, rejected}
use Rattle.proof_checker.proofs.faults.check.Goals as goal

pub returns-in-Ok-None-clause-ok : goal.returns-in-Ok-None-clause-ok
returns-in-Ok-None-clause-ok g c =
    let same : c.deref.result.now ≡ c.args.derivation.now.lines = search rules in
    let P : List Line → Type 0 = λ lines. IsVerdict (g.C.Constraints.system c.args.constraints.now) (g.C.Constraints.scope c.args.constraints.now) lines None in
    let Q : Option BadLine → Type 0 = λ o. IsVerdict (g.C.Constraints.system c.args.constraints.now) (g.C.Constraints.scope c.args.constraints.now) c.deref.result.now o in
    accepted _ _ c.args.derivation.now.lines c.used_are_unsatisfiable.ensures (subst P same (subst Q c.in-Ok-None.field-0-is c.in-Ok-None.ensures))

pub returns-in-Ok-Some-clause-err : goal.returns-in-Ok-Some-clause-err
returns-in-Ok-Some-clause-err g c =
    let same : c.deref.result.now ≡ c.args.derivation.now.lines = search rules in
    let P : List Line → Type 0 = λ lines. IsVerdict (g.C.Constraints.system c.args.constraints.now) (g.C.Constraints.scope c.args.constraints.now) lines (Some c.in-Ok-Some.bad) in
    let Q : Option BadLine → Type 0 = λ o. IsVerdict (g.C.Constraints.system c.args.constraints.now) (g.C.Constraints.scope c.args.constraints.now) c.deref.result.now o in
    rejected _ _ c.args.derivation.now.lines c.in-Ok-Some.bad c.faulty_is_not_valid.ensures (subst P same (subst Q c.in-Ok-Some.field-0-is c.in-Ok-Some.ensures))
