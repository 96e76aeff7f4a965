use Rattle.std.proofs.Common.{refl}
use Rattle.text_checker.proofs.Headers.{second_begins}
use Rattle.text_checker.proofs.LineBounds.{placed, within_text}
use Rattle.text_checker.proofs.check.line_in_text.Goals as goal

pub line_in_2-requires-clause-within : goal.line_in_2-requires-clause-within
line_in_2-requires-clause-within c = search (c.requires.within, within_text, placed)

pub returns-else-version-eq2 : goal.returns-else-version-eq2
returns-else-version-eq2 c = record {
  in_first = λ e. refl;
  in_second = λ e. absurd (c.if-version-eq2.false (c.version.ensures.second.1 (second_begins c.args.certificate.now c.args.text.now e)));
}
