use Rattle.std.proofs.lemmas.Result.{on_ok_weaker, IfErr-weaker}
use Rattle.text_checker.specs.Verified.{derivation}
use Rattle.text_checker.proofs.Faults.{refuted}
use Rattle.text_checker.proofs.check.verify_derivation.Goals as goal

pub returns-clause-valid : goal.returns-clause-valid
returns-clause-valid c =
    on_ok_weaker c.check_derivation.result (λ accepted. derivation c.in-Ok.derivation c.in-Ok.ensures.found.0 c.in-Ok.ensures.found.1 accepted) c.check_derivation.ensures.ok

pub returns-clause-invalid : goal.returns-clause-invalid
returns-clause-invalid c =
    IfErr-weaker c.check_derivation.result _ _
    (λ e h. refuted c.args.program.now c.args.text.now c.requires c.in-Ok.derivation e c.in-Ok.ensures.found.0 c.in-Ok.ensures.found.1 c.in-Ok.ensures.only h)
    c.check_derivation.ensures.err
