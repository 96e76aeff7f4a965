use Rattle.std.proofs.lemmas.Result.{IfOk-weaker}
use Rattle.clouseau_core.specs.Answers.{unloaded, loaded}
use Rattle.clouseau_core.proofs.Loaded.{unloaded_of, text_answer_over}
use Rattle.clouseau_core.proofs.verifying.verified.Goals as goal

pub returns-in-Ok-clause-answer : goal.returns-in-Ok-clause-answer
returns-in-Ok-clause-answer g c =
    IfOk-weaker c.verified_file.result _ _
    (λ a h. loaded c.in-Ok.program a.verdict a.out.items a.err.items c.in-Ok.ensures.program
    (text_answer_over _ _ _ _ _ _ c.args.text.now a.verdict a.out.items a.err.items (c.in-Ok.ensures.same c.args.text.now) c.in-Ok.ensures.later h))
    c.verified_file.ensures.answer

pub returns-in-Err-clause-answer : goal.returns-in-Err-clause-answer
returns-in-Err-clause-answer g c =
    IfOk-weaker c.unloaded.result _ _
    (λ a h. rw h.1 (unloaded a.verdict a.err.items (unloaded_of _ _ _ c.args.file.now c.in-Err.error a.verdict a.err.items c.in-Err.ensures.cause h.0)))
    c.unloaded.ensures
