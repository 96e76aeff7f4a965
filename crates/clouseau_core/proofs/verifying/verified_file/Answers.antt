use Rattle.std.proofs.Common.{rules}
use Rattle.std.proofs.lemmas.Result.{IfOk-weaker}
use Rattle.clouseau_core.specs.Answers.{read_fault, too_long, unread, verified, most_text_bytes}
use Rattle.clouseau_core.proofs.Given.{longer}
use Rattle.clouseau_core.proofs.verifying.verified_file.Goals as goal

pub returns-in-Ok-clause-answer : goal.returns-in-Ok-clause-answer
returns-in-Ok-clause-answer g c =
    IfOk-weaker c.verified_bytes.result _ _
    (λ a h. rw h.1 (verified c.as_slice.result.now a.verdict a.out.items (search rules) (search rules) h.0)) c.verified_bytes.ensures

pub returns-in_ok-line-in-Err-ReadFault-clause-answer : goal.returns-in_ok-line-in-Err-ReadFault-clause-answer
returns-in_ok-line-in-Err-ReadFault-clause-answer g c =
    let said = c.on_err.ensures in
    rw (said.0, said.1, said.2, c.in_ok-line-in-Err-ReadFault.ensures) (unread _ _ (read_fault (c.read_file.ensures.fault (search rules))))

pub returns-in_ok-line-in-Err-TooLong-clause-answer : goal.returns-in_ok-line-in-Err-TooLong-clause-answer
returns-in_ok-line-in-Err-TooLong-clause-answer g c =
    let said = c.on_err-in-Err-TooLong.ensures in
    rw (said.0, said.1, said.2, c.in_ok-line-in-Err-TooLong.ensures)
    (unread _ _ (too_long (longer (g.F.Files.held c.args.files.now c.args.name.now) (g.F.Files.left c.read_file.new.files) most_text_bytes (c.read_file.ensures.too_long (search rules)))))
