use Rattle.std.proofs.Common.{sym}
use Rattle.std.proofs.lemmas.Result.{IfOk-weaker}
use Rattle.command_words.specs.Asked.{asked_by}
use Rattle.clouseau_core.specs.Answers.{usage, done}
use Rattle.clouseau_core.proofs.answers.answer_to.Goals as goal

pub returns-in-Some-clause-answer : goal.returns-in-Some-clause-answer
returns-in-Some-clause-answer g c =
    IfOk-weaker c.done.result _ _
    (λ a h. done (asked_by c.in-Some.command) a.verdict a.out.items a.err.items (sym (rw c.in-Some.is at c.in_ok-found.ensures.command)) h) c.done.ensures.answer

pub returns-in-None-clause-answer : goal.returns-in-None-clause-answer
returns-in-None-clause-answer g c =
    IfOk-weaker c.unasked.result _ _
    (λ a h. rw (h.0, h.1, h.2) (usage (sym (rw c.in-None.is at c.in_ok-found.ensures.command)))) c.unasked.ensures
