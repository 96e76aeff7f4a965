use Rattle.conflict_proof.proofs.LineLemmas.{no_resolve, no_inst}
use Rattle.conflict_proof.proofs.reader.line_head.Goals as goal

pub returns-in_err-rest-in-114 : goal.returns-in_err-rest-in-114
returns-in_err-rest-in-114 c =
    rw (c.from_residual-in_err-rest-in-114.ensures, c.in_ok-letter.ensures.cases.0, c.in-114.is) (no_resolve c.in_ok-letter.rest.now c.in_err-rest-in-114.ensures.read)

pub returns-in_err-rest-in-105 : goal.returns-in_err-rest-in-105
returns-in_err-rest-in-105 c =
    rw (c.from_residual-in_err-rest-in-105.ensures, c.in_ok-letter.ensures.cases.0, c.in-105.is) (no_inst c.in_ok-letter.rest.now c.in_err-rest-in-105.ensures.read)
