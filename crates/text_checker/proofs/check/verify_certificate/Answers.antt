use Rattle.text_checker.specs.Verified.{certificate}
use Rattle.text_checker.proofs.Faults.{unread_certificate, not_good}
use Rattle.text_checker.proofs.LineBounds.{first_line}
use Rattle.text_checker.proofs.check.verify_certificate.Goals as goal

pub returns-in-Err-Invalid-clause-invalid : goal.returns-in-Err-Invalid-clause-invalid
returns-in-Err-Invalid-clause-invalid c =
    let invalid = unread_certificate c.args.program.now c.args.text.now c.requires c.in-Err-Invalid.bad (rw c.in-Err-Invalid.field-0-is at c.in-Err-Invalid.ensures.refused) in
    rw c.in-Err-Invalid.bad-is invalid

pub returns-in-Ok-check_certificate-clause-valid : goal.returns-in-Ok-check_certificate-clause-valid
returns-in-Ok-check_certificate-clause-valid c =
    certificate c.in-Ok.certificate c.requires c.in-Ok.ensures.found.0 c.in-Ok.ensures.found.1 c.in-Ok-check_certificate.ensures.ok
    c.in-Ok-check_certificate.ensures.owned

pub line_in_text-requires : goal.line_in_text-requires
line_in_text-requires c =
    let rejected = rw c.in-Err-Invalid-check_certificate.field-0-is at c.in-Err-Invalid-check_certificate.ensures.err in
    first_line c.args.program.now c.in-Ok.certificate c.in-Err-Invalid-check_certificate.bad rejected.fault

pub returns-clause-invalid : goal.returns-clause-invalid
returns-clause-invalid c =
    let bad = c.in-Err-Invalid-check_certificate.bad in
    let rejected = rw c.in-Err-Invalid-check_certificate.field-0-is at c.in-Err-Invalid-check_certificate.ensures.err in
    not_good c.args.program.now c.args.text.now c.requires c.in-Ok.certificate (record { line = c.line_in_text.result; reason = bad.reason }) bad.line
    c.in-Ok.ensures.found.0 c.in-Ok.ensures.found.1 c.in-Ok.ensures.only rejected c.line_in_text.ensures
