use Rattle.std.proofs.Common.{◌≡◌, ◌<◌, ◌≤◌, List, length, get_or, ap, sym, subst, ◌∙◌, arith}
use Rattle.verdict_meaning.specs.Systems.{root}
use Rattle.unit_answers.specs.Layouts.{Numbers, GroupNumbers, AreGroupNumbers, no_numbers}
use Rattle.std.proofs.lemmas.List.{get_or_default}
use Rattle.program_shapes.proofs.Sums.{tables_next, tables_all}
use Rattle.program_shapes.proofs.groups.group_shapes.Goals as goal

pub loop-numbers-preserved : goal.loop-numbers-preserved
loop-numbers-preserved c s is =
    let many : length c.deref-numbers-items.result.now ≡ length c.args.layout.now.groups = ap length c.deref-numbers-items.ensures.value ∙ ap (λ (l : Numbers). length l.groups) c.layout.view_is in
    let lt = c.loop-numbers-test.true in
    let within : c.loop-numbers.numbers-index < length c.args.layout.now.groups = omega arith in
    let size = is.groups in
    let own = is.each c.loop-numbers.numbers-index (omega arith) in
    let item : c.numbers-item.result ≡ get_or c.args.layout.now.groups c.loop-numbers.numbers-index no_numbers =
    c.numbers-item.is
    ∙ ap (λ (ns : List GroupNumbers). get_or ns c.loop-numbers.numbers-index c.numbers-item.result) (c.deref-numbers-items.ensures.value ∙ ap (λ (l : Numbers). l.groups) c.layout.view_is)
    ∙ get_or_default c.args.layout.now.groups c.loop-numbers.numbers-index c.numbers-item.result no_numbers within in
    let fields = ap (λ (l : Numbers). l.fields) c.layout.view_is ∙ is.fields in
    tables_next s c.loop-numbers.numbers-index c.loop-numbers.shapes.items c.in_ok-shape.shape c.push.new.self.items c.in_ok-push.ensures.items
    (c.in_ok-shape.ensures s c.loop-numbers.numbers-index fields (subst (λ (n : GroupNumbers). AreGroupNumbers s c.loop-numbers.numbers-index n) (sym item) own))
    (c.loop-numbers.invariant s is)

pub returns : goal.returns
returns c s is =
    let many : length c.deref-numbers-items.result.now ≡ length c.args.layout.now.groups = ap length c.deref-numbers-items.ensures.value ∙ ap (λ (l : Numbers). length l.groups) c.layout.view_is in
    let low = c.loop-numbers-test.false in
    let high = c.loop-numbers.auto.numbers-index-end in
    let size = is.groups in
    let few = is.few in
    tables_all s c.loop-numbers.numbers-index c.loop-numbers.shapes.items (omega arith) (omega arith) (c.loop-numbers.invariant s is)
