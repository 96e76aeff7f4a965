use Rattle.clouseau_core.specs.Report.{whole, out_part, err_part}
use Rattle.clouseau_core.proofs.Given.{appends_nothing}
use Rattle.clouseau_core.proofs.giving.give.Goals as goal

pub returns-in-Err-clause-given : goal.returns-in-Err-clause-given
returns-in-Err-clause-given g c =
    rw c.reported.ensures.verdict (out_part (c.in-Err.ensures.part, c.in-Err.ensures.cause) (appends_nothing (g.E.Sink.given c.args.err.now)))

pub returns-in-Ok-write_all-clause-given : goal.returns-in-Ok-write_all-clause-given
returns-in-Ok-write_all-clause-given g c =
    rw c.reported-in-Ok-write_all.ensures.verdict (whole c.in-Ok.ensures.all c.in-Ok-write_all.ensures.all)

pub returns-in-Err-write_all-clause-given : goal.returns-in-Err-write_all-clause-given
returns-in-Err-write_all-clause-given g c =
    rw c.reported-in-Err-write_all.ensures.verdict (err_part c.in-Ok.ensures.all (c.in-Err-write_all.ensures.part, c.in-Err-write_all.ensures.cause))
