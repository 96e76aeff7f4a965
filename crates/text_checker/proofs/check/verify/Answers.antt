use Rattle.text_checker.proofs.check.verify.Goals as goal

pub verify_certificate-requires : goal.verify_certificate-requires
verify_certificate-requires c = λ begins. c.in-None.ensures begins.0 begins.1
