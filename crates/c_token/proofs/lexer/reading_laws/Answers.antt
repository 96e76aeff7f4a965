use Rattle.c_token.proofs.ReadingLaws.{has_one_reading, is_read_or_stuck, has_one_stuck_place}
use Rattle.c_token.proofs.lexer.reading_laws.Goals as goal

pub returns-clause-one : goal.returns-clause-one
returns-clause-one c = has_one_reading

pub returns-clause-apart : goal.returns-clause-apart
returns-clause-apart c = is_read_or_stuck

pub returns-clause-stuck : goal.returns-clause-stuck
returns-clause-stuck c = has_one_stuck_place
