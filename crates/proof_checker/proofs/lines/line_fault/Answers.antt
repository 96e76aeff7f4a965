use Rattle.std.proofs.Common.{◌≡◌, ◌+◌, Some, sym, subst}
use Rattle.conflict_proof.specs.declared.faults.Reason.{Reason}
use Rattle.verdict_meaning.specs.Derivations.{line_at}
use Rattle.proof_checker.specs.Checking.{IsInRange, IsFirstReason}
use Rattle.proof_checker.proofs.LineLemmas.{next_line, read_next, match_true, match_false, first_wrong, right_line}
use Rattle.proof_checker.proofs.lines.line_fault.Goals as goal

pub returns-then-not-branch : goal.returns-then-not-branch
returns-then-not-branch g c =
    let P : Reason → Type 0 = λ why. IsFirstReason (g.C.Constraints.system c.args.constraints.now) (g.C.Constraints.scope c.args.constraints.now) c.args.lines.now (c.args.k + 1) why in
    let there : line_at c.args.lines.now (c.args.k + 1) ≡ Some c.index-lines-k.result =
    next_line c.args.lines.now c.args.k c.index-lines-k.result (read_next c.args.lines.now c.args.k c.index-lines-k.result c.requires c.index-lines-k.is) in
    let fits : IsInRange (g.C.Constraints.system c.args.constraints.now) (c.args.k + 1) c.index-lines-k.result = match_true c.is_in_range.result _ _ c.if-not-is_in_range.false c.is_in_range.ensures in
    subst P (sym c.reason_of.ensures) (first_wrong _ _ c.args.lines.now (c.args.k + 1) c.index-lines-k.result there fits (match_false c.in_ok-is_right.field-0 _ _ c.if-not-branch.true c.in_ok-is_right.ensures))

pub returns : goal.returns
returns g c =
    let there : line_at c.args.lines.now (c.args.k + 1) ≡ Some c.index-lines-k.result =
    next_line c.args.lines.now c.args.k c.index-lines-k.result (read_next c.args.lines.now c.args.k c.index-lines-k.result c.requires c.index-lines-k.is) in
    let fits : IsInRange (g.C.Constraints.system c.args.constraints.now) (c.args.k + 1) c.index-lines-k.result = match_true c.is_in_range.result _ _ c.if-not-is_in_range.false c.is_in_range.ensures in
    right_line _ _ c.args.lines.now (c.args.k + 1) c.index-lines-k.result there fits (match_true c.in_ok-is_right.field-0 _ _ c.if-not-branch.false c.in_ok-is_right.ensures)
