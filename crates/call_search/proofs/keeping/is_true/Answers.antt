use Rattle.std.proofs.Common.{refl, sym, ◌∙◌}
use Rattle.verdict_meaning.specs.Certificates.{bit_at}
use Rattle.call_search.proofs.Held.{true_by, false_more, false_all}
use Rattle.call_search.proofs.keeping.is_true.Goals as goal

pub loop-lit-init : goal.loop-lit-init
loop-lit-init c = refl

pub returns-then-holds : goal.returns-then-holds
returns-then-holds c = true_by (bit_at c.args.bits.now) c.args.lits.now c.loop-lit.lit-index c.lit-item.result c.loop-lit-test.true c.lit-item.is (sym c.holds.ensures ∙ c.if-holds.true)

pub loop-lit-preserved : goal.loop-lit-preserved
loop-lit-preserved c = false_more (bit_at c.args.bits.now) c.args.lits.now c.loop-lit.lit-index c.lit-item.result c.loop-lit-test.true c.lit-item.is (sym c.holds.ensures ∙ c.if-holds.false) c.loop-lit.invariant

pub returns : goal.returns
returns c = false_all (bit_at c.args.bits.now) c.args.lits.now c.loop-lit.lit-index c.loop-lit-test.false c.loop-lit.invariant
