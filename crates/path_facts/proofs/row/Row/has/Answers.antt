use Rattle.std.proofs.Common.{◌/◌, ◌∙◌, ap, sym, length, arith}
use Rattle.std.proofs.lemmas.List.{get_or_default}
use Rattle.path_facts.proofs.BitLemmas.{bit_in_test}
use Rattle.path_facts.proofs.row.Row.has.Goals as goal

pub returns : goal.returns
returns c =
    let long = ap length c.self.view_is in
    let word = c.index-word.ensures ∙ get_or_default c.self.inside.words.items (c.args.bit / 64) c.index-word.result.now 0 (omega arith) in
    rw (word, sym c.self.view_is) (bit_in_test c.self.inside.words.items c.args.bit)
