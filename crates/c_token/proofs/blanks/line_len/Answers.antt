use Rattle.c_token.proofs.BlankLaws.{line_found, line_missing}
use Rattle.c_token.proofs.blanks.line_len.Goals as goal

pub returns-in-Some-clause-len : goal.returns-in-Some-clause-len
returns-in-Some-clause-len c = line_found c.args.bytes.now c.in-Some.at c.in-Some.ensures

pub returns-in-None-clause-len : goal.returns-in-None-clause-len
returns-in-None-clause-len c = line_missing c.args.bytes.now c.in-None.ensures
