use Rattle.std.proofs.lemmas.Result.{err_from_is_err_and}
use Rattle.source_program.proofs.Loads.{untyped_failure, number_failure}
use Rattle.source_program.proofs.source.load_source.Goals as goal

pub returns-in_err-typed-clause-cause : goal.returns-in_err-typed-clause-cause
returns-in_err-typed-clause-cause c =
    let p = err_from_is_err_and c.from_residual.result c.from_residual.ensures.1 in
    rw (p.1, p.2) (untyped_failure c.args.source.now c.in_err-typed.field-0.0 c.in_err-typed.ensures.cause)

pub returns-in_err-program-clause-cause : goal.returns-in_err-program-clause-cause
returns-in_err-program-clause-cause c =
    let p = err_from_is_err_and c.from_residual-in_err-program.result c.from_residual-in_err-program.ensures.1 in
    rw (p.1, p.2) (number_failure c.args.source.now c.in_ok-typed.typed c.in_err-program.field-0.0 c.in_ok-typed.ensures.typed c.in_err-program.ensures.err)
