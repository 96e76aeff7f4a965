use Rattle.std.proofs.Common.{◌≡◌, ℕ, ◌<◌, length, get_or, arith}
use Rattle.std.proofs.lemmas.List.Elements.{All-get_or}
use Rattle.annotate.proofs.PaintRows.{marks_none, marks_one, marks_on}
use Rattle.annotate.proofs.ReachRows.{any_default}
use Rattle.annotate.proofs.paint.mark_all.Goals as goal

pub loop-number-init : goal.loop-number-init
loop-number-init c = marks_none c.args.marks.now c.args.found.now.items c.args.mark c.args.numbers.now

pub loop-number-preserved : goal.loop-number-preserved
loop-number-preserved c =
    let xs = c.args.numbers.now in
    let i = c.loop-number.number-index in
    let lt : i < length xs = c.loop-number-test.true in
    let within = All-get_or (λ q. q < length c.args.marks.now) xs i 0 lt c.requires.within in
    let l = c.loop-number in
    marks_on c.args.marks.now c.args.found.now.items l.marks l.found.items c.mark_new.new.marks c.mark_new.new.found.items c.args.mark xs i (get_or xs i 0) lt
    (any_default xs i 0 (get_or xs i 0) lt) l.invariant
    (marks_one l.marks l.found.items (get_or xs i 0) c.args.mark c.mark_new.new.marks c.mark_new.new.found.items (omega (arith, within, l.invariant.count))
    (λ e. omega (arith, e, c.requires.some)) c.in_ok-mark_new.ensures.marks c.in_ok-mark_new.ensures.found)
