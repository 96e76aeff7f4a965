use Rattle.std.proofs.Common.{◌≡◌, ◌∙◌}
use Rattle.std.proofs.lemmas.Result.{IfOk-weaker}
use Rattle.clouseau_core.specs.Answers.{refused, judged}
use Rattle.command_words.specs.Sample.{sample_text}
use Rattle.clouseau_core.proofs.Samples.{sample_small}
use Rattle.clouseau_core.proofs.sampling.sampled.Goals as goal

pub load_source-requires : goal.load_source-requires
load_source-requires c = rw (c.as_slice.ensures.value, c.in_ok-source.ensures) (sample_small c.args.count c.requires.most)

pub returns-in-Ok : goal.returns-in-Ok
returns-in-Ok c =
    IfOk-weaker c.judged.result _ _
    (λ a h. rw h.1 (judged c.in-Ok.program a.verdict a.out.items (rw (← c.in_ok-source.ensures, ← c.as_slice.ensures.value) c.in-Ok.ensures.program) h.0)) c.judged.ensures

pub returns-in-Err-Refused : goal.returns-in-Err-Refused
returns-in-Err-Refused c =
    let bytes : c.as_slice-in-Err-Refused.result.now ≡ sample_text c.args.count = c.as_slice-in-Err-Refused.ensures.value ∙ c.in_ok-source.ensures in
    let cause = rw c.in-Err-Refused.field-0-is at c.in-Err-Refused.ensures.cause in
    IfOk-weaker c.refused.result _ _
    (λ a h. rw (h.0, h.1, h.2, bytes) (refused c.in-Err-Refused.refusal (rw (← c.in_ok-source.ensures, ← c.as_slice.ensures.value) cause))) c.refused.ensures
