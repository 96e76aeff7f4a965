use Rattle.std.proofs.Common.{◌≡◌, ◌≤◌, ℕ, List, length, get_or, sym, ◌∙◌, subst}
use Rattle.std.specs.Str.Parse.{ParsesUnsigned}
use Rattle.conflict_proof.proofs.Digits.{needless_zero, utf8_digits, utf8_fails, utf8_gives, parsed}
use Rattle.conflict_proof.proofs.numbers.value.Goals.{else-run-gt1-via-then-run-gt1+else-run-eq48, else-run-gt1-via-else-run-gt1}
use Rattle.conflict_proof.proofs.numbers.value.Goals as goal

pub returns-then-run-eq48 : goal.returns-then-run-eq48
returns-then-run-eq48 c = needless_zero c.args.run.now c.if-run-eq48.true c.if-run-gt1.true

pub returns-in_err-digits : goal.returns-in_err-digits
returns-in_err-digits c =
    absurd (utf8_fails _ _ _ c.from_utf8.result c.from_utf8.ensures.cases (utf8_digits c.args.run.now c.requires) (sym c.ok.ensures.value ∙ c.in_err-digits.was))

pub returns : goal.returns
returns c =
    let plain : get_or c.args.run.now 0 0 ≡ 48 → length c.args.run.now ≤ 1 = λ zero. elim c.else-run-gt1.branch [
      | else-run-gt1-via-then-run-gt1+else-run-eq48 w ↦ absurd (w.if-run-eq48.false zero)
      | else-run-gt1-via-else-run-gt1 w ↦ w.if-run-gt1.false
    ] in
    let text = (utf8_gives _ _ c.from_utf8.result c.in_ok-digits.digits c.from_utf8.ensures.cases (sym c.ok.ensures.value ∙ c.in_ok-digits.was)).0 in
    rw c.ok-2.ensures.value (parsed c.args.run.now c.parse.result c.requires plain (subst (λ (w : List ℕ). ParsesUnsigned 64 10 w c.parse.result) text c.parse.ensures.value.0))
