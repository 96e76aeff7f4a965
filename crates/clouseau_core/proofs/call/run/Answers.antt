use Rattle.std.proofs.Common.{codes, []}
use Rattle.clouseau_core.specs.declared.report.Verdict.{Verdict}
use Rattle.clouseau_core.specs.Answers.{no_memory}
use Rattle.clouseau_core.specs.Texts.{memory_line}
use Rattle.clouseau_core.proofs.Reports.{report_of}
use Rattle.clouseau_core.proofs.call.run.Goals as goal

pub returns-in-Ok-clause-reported : goal.returns-in-Ok-clause-reported
returns-in-Ok-clause-reported g c =
    report_of c.in-Ok.answer.verdict c.as_slice.result.now c.as_slice-in-Ok.result.now
    (rw (c.as_slice.ensures.value, c.as_slice-in-Ok.ensures.value) c.in-Ok.ensures.answer)
    c.give.ensures.given

pub returns-in-Err-clause-reported : goal.returns-in-Err-clause-reported
returns-in-Err-clause-reported g c =
    report_of Verdict.NoMemory [] memory_line no_memory c.give-in-Err.ensures.given
