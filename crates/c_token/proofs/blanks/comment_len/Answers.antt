use Rattle.c_token.proofs.BlankLaws.{closed_comment, open_comment, line_comment_is}
use Rattle.c_token.proofs.blanks.comment_len.Goals as goal

pub returns-in-Some : goal.returns-in-Some
returns-in-Some c = rw (c.in_ok-second.ensures.cases.0, c.in-42.is) (closed_comment c.in_ok-second.body.now c.in-Some.at c.in-Some.ensures)

pub returns-in-None : goal.returns-in-None
returns-in-None c = rw (c.in_ok-second.ensures.cases.0, c.in-42.is) (open_comment c.in_ok-second.body.now c.in-None.ensures)

pub returns-in-47 : goal.returns-in-47
returns-in-47 c = rw (c.in_ok-second.ensures.cases.0, c.in-47.is, c.line_len.ensures.len) (line_comment_is c.in_ok-second.body.now)
