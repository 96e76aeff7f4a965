use Rattle.own_cert.proofs.FormLemmas.{no_word}
use Rattle.own_cert.proofs.line_reader.line.Goals as goal

pub returns : goal.returns
returns c =
    no_word c.args.text.now c.in_default.ensures c.in_default-after_word.ensures c.in_default-after_word-2.ensures c.in_default-after_word-3.ensures c.in_default-after_word-4.ensures
    c.in_default-after_word-5.ensures c.in_default-after_word-6.ensures c.in_default-after_word-7.ensures
