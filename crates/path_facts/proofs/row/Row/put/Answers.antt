use Rattle.std.proofs.Common.{◌/◌, ◌∙◌, ap, sym, length, arith}
use Rattle.std.proofs.lemmas.List.{get_or_default}
use Rattle.path_facts.proofs.BitLemmas.{bit_in-set, bit_in-clear}
use Rattle.path_facts.proofs.row.Row.put.Goals as goal

pub returns-then-value-clause-bits : goal.returns-then-value-clause-bits
returns-then-value-clause-bits c =
    let long = ap length c.self.view_is in
    let word = c.index_mut.ensures.value ∙ get_or_default c.self.inside.words.items (c.args.bit / 64) c.index_mut.result.now 0 (omega arith) in
    rw (c.if-value.true, sym c.self.view_is) (bit_in-set c.self.inside.words.items c.args.bit c.index_mut.result.now (omega arith) word)

pub returns-else-value-clause-bits : goal.returns-else-value-clause-bits
returns-else-value-clause-bits c =
    let long = ap length c.self.view_is in
    let word = c.index_mut-else-value.ensures.value ∙ get_or_default c.self.inside.words.items (c.args.bit / 64) c.index_mut-else-value.result.now 0 (omega arith) in
    rw (c.if-value.false, sym c.self.view_is) (bit_in-clear c.self.inside.words.items c.args.bit c.index_mut-else-value.result.now (omega arith) word)
