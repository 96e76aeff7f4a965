use Rattle.std.proofs.lemmas.Result.{IfOk-weaker}
use Rattle.clouseau_core.specs.Answers.{unloaded, judged}
use Rattle.clouseau_core.proofs.Loaded.{unloaded_of}
use Rattle.clouseau_core.proofs.sources.judged_file.Goals as goal

pub returns-in-Ok-clause-answer : goal.returns-in-Ok-clause-answer
returns-in-Ok-clause-answer g c =
    IfOk-weaker c.judged.result _ _ (λ a h. rw h.1 (judged c.in-Ok.program a.verdict a.out.items c.in-Ok.ensures.program h.0)) c.judged.ensures

pub returns-in-Err-clause-answer : goal.returns-in-Err-clause-answer
returns-in-Err-clause-answer g c =
    IfOk-weaker c.unloaded.result _ _
    (λ a h. rw h.1 (unloaded a.verdict a.err.items (unloaded_of _ _ _ c.args.name.now c.in-Err.error a.verdict a.err.items c.in-Err.ensures.cause h.0)))
    c.unloaded.ensures
