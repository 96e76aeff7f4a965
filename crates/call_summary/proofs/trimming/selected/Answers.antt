use Rattle.std.proofs.Common.{◌≡◌, ◌++◌, ℕ, Some, List, length, get_or, slice_get, refl, sym, ap, ◌∙◌, subst, arith, rules, false}
use Rattle.std.proofs.lemmas.Option.{slice_get_read}
use Rattle.call_summary.specs.Trims.{IsBehind, by_new, line_if}
use Rattle.call_summary.proofs.Selecting.{none_gone, behind_count, gone_on, all_gone}
use Rattle.call_summary.proofs.trimming.selected.Goals as goal

pub loop-index-init : goal.loop-index-init
loop-index-init c = rw (c.new-items.ensures.items, c.in_ok-numbers.ensures.items) (none_gone c.args.marks.now c.args.lines.now)

pub push_marked-requires : goal.push_marked-requires
push_marked-requires c =
    let line = c.index-lines-index.result in
    let there : slice_get c.args.lines.now c.loop-index.index ≡ Some line = slice_get_read c.args.lines.now (length c.args.lines.now) c.loop-index.index line refl c.loop-index-test.true c.index-lines-index.is in
    subst (λ (ns : List ℕ). IsBehind line.how (length ns)) (sym c.deref.ensures.value)
    (behind_count c.args.lines.now c.loop-index.numbers.items c.args.marks.now c.loop-index.index line c.requires.back c.loop-index.invariant.numbers_are there)

pub loop-index-preserved : goal.loop-index-preserved
loop-index-preserved c =
    let line = c.index-lines-index.result in
    let there : slice_get c.args.lines.now c.loop-index.index ≡ Some line = slice_get_read c.args.lines.now (length c.args.lines.now) c.loop-index.index line refl c.loop-index-test.true c.index-lines-index.is in
    let pushed : c.push_marked.new.items.items ≡ c.loop-index.items.items ++ line_if (get_or c.args.marks.now c.loop-index.index false) (by_new c.loop-index.numbers.items line) =
    c.in_ok-push_marked.ensures ∙ ap (λ (ns : List ℕ). c.loop-index.items.items ++ line_if (get_or c.args.marks.now c.loop-index.index false) (by_new ns line)) c.deref.ensures.value in
    gone_on c.args.marks.now c.args.lines.now c.loop-index.items.items c.push_marked.new.items.items c.loop-index.numbers.items c.push.new.self.items c.loop-index.index c.in_ok-number.field-0 line
    (get_or c.args.marks.now c.loop-index.index false) c.requires.back c.requires.count c.loop-index.invariant there refl pushed (search rules) c.in_ok-push.ensures.items

pub returns : goal.returns
returns c = all_gone c.args.marks.now c.args.lines.now c.loop-index.items.items c.loop-index.numbers.items c.loop-index.index c.requires.count (omega (arith, c.loop-index-test.false, c.loop-index.auto.index-end)) c.loop-index.invariant
