use Rattle.clouseau_core.specs.Answers.{valid, invalid}
use Rattle.clouseau_core.proofs.verifying.verified_bytes.Goals as goal

pub returns-in_ok-line-in-Ok : goal.returns-in_ok-line-in-Ok
returns-in_ok-line-in-Ok c =
    let said = c.on_out.ensures in
    (rw (said.0, said.1, c.in_ok-line-in-Ok.ensures.items) (valid c.in-Ok.ensures.valid), said.2)

pub returns-in_ok-line-in-Err-Invalid : goal.returns-in_ok-line-in-Err-Invalid
returns-in_ok-line-in-Err-Invalid c =
    let said = c.on_out-in-Err-Invalid.ensures in (
      rw (said.0, said.1, c.in_ok-line-in-Err-Invalid.ensures)
          (invalid c.in-Err-Invalid.bad (rw c.in-Err-Invalid.field-0-is at c.in-Err-Invalid.ensures.invalid)),
      said.2,
    )
