use Rattle.std.proofs.Common.{◌≡◌, ℕ, ◌+◌, ◌<◌, ◌≤◌, ◌∙◌, List, [], length, get_or, subst, ap, arith}
use Rattle.std.proofs.lemmas.List.{get_or_read}
use Rattle.std.specs.List.{Contains}
use Rattle.annotate.specs.Paint.{numbers_with}
use Rattle.annotate.proofs.PaintRows.{marks_one, painting_begins, painting_on, painting_within, painting_ends}
use Rattle.annotate.proofs.ReachRows.{all_from_contains}
use Rattle.annotate.proofs.paint.paint.Goals as goal

pub loop-done-init : goal.loop-done-init
loop-done-init c =
    let found : c.mark_new.new.found.items ≡ numbers_with c.args.marks.now [] c.args.root =
    subst (λ (k : List ℕ). c.mark_new.new.found.items ≡ numbers_with c.args.marks.now k c.args.root) c.new-found.ensures.items c.in_ok-mark_new.ensures.found in
    painting_begins c.args.lists.now c.args.marks.now c.args.root c.mark_new.new.marks c.mark_new.new.found.items
    (marks_one c.args.marks.now [] c.args.root (c.args.root + 1) c.mark_new.new.marks c.mark_new.new.found.items (omega (arith, c.requires.root, c.requires.count))
    (λ e. omega (arith, e)) c.in_ok-mark_new.ensures.marks found)

pub bounds-lists-number_at : goal.bounds-lists-number_at
bounds-lists-number_at c =
    let l = c.loop-done in
    let lt : l.done < length l.found.items = omega (arith, c.loop-done-test.true, c.len.ensures, l.found.ok.0) in
    let at : c.number_at.result ≡ get_or l.found.items l.done 0 = c.number_at.ensures ∙ ap (λ (xs : List ℕ). get_or xs l.done 0) c.deref.ensures.value in
    let small = painting_within c.args.lists.now c.args.marks.now c.args.root l.marks l.found.items l.done l.invariant lt in
    omega (arith, small, at, c.requires.count)

pub mark_all-requires-clause-within : goal.mark_all-requires-clause-within
mark_all-requires-clause-within c =
    let l = c.loop-done in
    let lt : l.done < length l.found.items = omega (arith, c.loop-done-test.true, c.len.ensures, l.found.ok.0) in
    let at : c.number_at.result ≡ get_or l.found.items l.done 0 = c.number_at.ensures ∙ ap (λ (xs : List ℕ). get_or xs l.done 0) c.deref.ensures.value in
    let small = painting_within c.args.lists.now c.args.marks.now c.args.root l.marks l.found.items l.done l.invariant lt in
    let below : c.number_at.result < length c.args.lists.now = omega (arith, small, at, c.requires.count) in
    let next : c.deref-in-loop-done.result.now ≡ get_or c.args.lists.now c.number_at.result [] =
    c.deref-in-loop-done.ensures.value ∙ c.next.view_is ∙ get_or_read c.args.lists.now c.number_at.result c.index-lists-number_at.result below c.index-lists-number_at.is [] in
    all_from_contains (λ q. q < length c.loop-done.marks) _ (λ q h.
    let there = c.requires.within c.number_at.result q (subst (λ (us : List ℕ). Contains us q) next h) in omega (arith, there, c.requires.count, c.loop-done.invariant.count))

pub loop-done-preserved : goal.loop-done-preserved
loop-done-preserved c =
    let l = c.loop-done in
    let lt : l.done < length l.found.items = omega (arith, c.loop-done-test.true, c.len.ensures, l.found.ok.0) in
    let at : c.number_at.result ≡ get_or l.found.items l.done 0 = c.number_at.ensures ∙ ap (λ (xs : List ℕ). get_or xs l.done 0) c.deref.ensures.value in
    let small = painting_within c.args.lists.now c.args.marks.now c.args.root l.marks l.found.items l.done l.invariant lt in
    let below : c.number_at.result < length c.args.lists.now = omega (arith, small, at, c.requires.count) in
    let next : c.deref-in-loop-done.result.now ≡ get_or c.args.lists.now c.number_at.result [] =
    c.deref-in-loop-done.ensures.value ∙ c.next.view_is ∙ get_or_read c.args.lists.now c.number_at.result c.index-lists-number_at.result below c.index-lists-number_at.is [] in
    painting_on c.args.lists.now c.args.marks.now c.args.root l.marks l.found.items l.done l.invariant lt c.deref-in-loop-done.result.now (next ∙ ap (λ k. get_or c.args.lists.now k []) at)
    c.mark_all.new.marks c.mark_all.new.found.items c.in_ok-mark_all.ensures

pub loop-done-smaller : goal.loop-done-smaller
loop-done-smaller c =
    let l = c.loop-done in
    let lt : l.done < length l.found.items = omega (arith, c.loop-done-test.true, c.len.ensures, l.found.ok.0) in
    omega (arith, lt, c.in_ok-mark_all.ensures.sum)

pub returns : goal.returns
returns c =
    let l = c.loop-done in
    let end : length l.found.items ≤ l.done = omega (arith, c.loop-done-test.false, c.len.ensures, l.found.ok.0) in
    painting_ends c.args.lists.now c.args.marks.now c.args.root l.marks l.found.items l.done l.invariant end c.requires.closed
