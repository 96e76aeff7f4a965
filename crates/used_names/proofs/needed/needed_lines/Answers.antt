use Rattle.std.proofs.Common.{◌≡◌, ◌+◌, ◌-◌, ◌<◌, suc, length, get_or, refl, sym, ◌∙◌, subst, arith, rules, false}
use Rattle.std.proofs.lemmas.List.{get_or_read}
use Rattle.std.proofs.lemmas.Option.{slice_get-get_or}
use Rattle.used_names.specs.Gone.{IsGoneBack}
use Rattle.used_names.specs.Marks.{is_marked}
use Rattle.used_names.proofs.MarkLemmas.{gone_begin, gone_past, gone_on, gone_all}
use Rattle.used_names.proofs.needed.needed_lines.Goals as goal
use Rattle.used_names.proofs.needed.needed_lines.Goals.{then-index, else-index}

pub loop-done-init : goal.loop-done-init
loop-done-init c =
    let all : length c.args.lines.now ≡ length c.args.lines.now - 0 = omega arith in
    subst (IsGoneBack c.args.lines.now c.mark.new.marks.items) all (gone_begin c.args.lines.now c.mark.new.marks.items (search rules))

pub loop-done-preserved : goal.loop-done-preserved
loop-done-preserved c =
    let lines = c.args.lines.now in
    let marks = c.loop-done.marks.items in
    let index = length lines - 1 - c.loop-done.done in
    let lt : index < length lines = omega (arith, c.loop-done-test.true, c.loop-done.auto.done-end) in
    let next : length lines - (c.loop-done.done + 1) ≡ index = omega arith in
    let from : length lines - c.loop-done.done ≡ suc index = omega (arith, c.loop-done-test.true, c.loop-done.auto.done-end) in
    let before : IsGoneBack lines marks (suc index) = subst (IsGoneBack lines marks) from c.loop-done.invariant in
    let mark : is_marked marks (suc index) ≡ c.index.result.now = sym (get_or_read marks index c.index.result.now (omega (arith, lt, c.loop-done.invariant.count)) c.index.ensures false) in
    subst (IsGoneBack lines c.if-index.marks.items) (sym next)
    (elim c.if-index.branch [
      | then-index w ↦
          let line = get_or lines index w.index-lines-index.result in
          rw (w.marks-is, w.mark_premises.ensures) (gone_on lines marks index (suc index) refl before line (slice_get-get_or lines index w.index-lines-index.result lt) c.requires (mark ∙ w.if-index.true))
      | else-index w ↦ rw (w.marks-is) (gone_past lines marks index (suc index) refl before (mark ∙ w.if-index.false))
    ])

pub returns : goal.returns
returns c =
    let none : length c.args.lines.now - c.loop-done.done ≡ 0 = omega (arith, c.loop-done-test.false, c.loop-done.auto.done-end) in
    gone_all c.args.lines.now c.loop-done.marks.items (subst (IsGoneBack c.args.lines.now c.loop-done.marks.items) none c.loop-done.invariant)
