use Rattle.clouseau_core.specs.declared.report.Verdict.{Verdict}
use Rattle.clouseau_core.proofs.Promised.{promised_as}
use Rattle.clouseau_core.proofs.Decided.{decided, on_words}
use Rattle.clouseau_core.proofs.call.clouseau.Goals as goal

pub returns-clause-accepted : goal.returns-clause-accepted
returns-clause-accepted g c certificate is = promised_as (Verdict.Accepted certificate) c.run.ensures.reported is

pub returns-clause-conflict : goal.returns-clause-conflict
returns-clause-conflict g c conflicts is = promised_as (Verdict.Conflict conflicts) c.run.ensures.reported is

pub returns-clause-undecided : goal.returns-clause-undecided
returns-clause-undecided g c derivation is = promised_as (Verdict.Undecided derivation) c.run.ensures.reported is

pub returns-clause-valid : goal.returns-clause-valid
returns-clause-valid g c is = promised_as Verdict.Valid c.run.ensures.reported is

pub returns-clause-invalid : goal.returns-clause-invalid
returns-clause-invalid g c bad is = promised_as (Verdict.Invalid bad) c.run.ensures.reported is

pub returns-clause-decided : goal.returns-clause-decided
returns-clause-decided g c = decided c.run.ensures.reported

pub returns-clause-usage : goal.returns-clause-usage
returns-clause-usage g c = on_words c.run.ensures.reported
