use Rattle.std.proofs.Common.{ℕ, ◌+◌, length, slice_index_or, refl, ap, arith}
use Rattle.group_solver.proofs.Reading.{read_at}
use Rattle.group_solver.proofs.Placing.{counted_none, counted_there, counted_small, counted_next, counted_all}
use Rattle.group_solver.proofs.lemmas.own_cost.Goals as goal

pub loop-place-init : goal.loop-place-init
loop-place-init c = counted_none c.args.lines.now c.args._group c.args.places.now c.requires.places

pub bounds-lines-place : goal.bounds-lines-place
bounds-lines-place c =
    let k = c.loop-place.place-index in
    counted_there c.args.lines.now c.args._group k (slice_index_or c.args.places.now k 0) c.loop-place.words c.args.places.now c.loop-place-test.true refl c.loop-place.invariant

pub overflow_add-words-in-loop-place : goal.overflow_add-words-in-loop-place
overflow_add-words-in-loop-place c =
    let k = c.loop-place.place-index in
    let p : ℕ = slice_index_or c.args.places.now k 0 in
    let there = counted_there c.args.lines.now c.args._group k p c.loop-place.words c.args.places.now c.loop-place-test.true refl c.loop-place.invariant in
    let at = read_at c.args.lines.now p c.index-lines-place.result there c.index-lines-place.is in
    let le = counted_small c.args.lines.now c.args._group k p c.loop-place.words c.args.places.now c.index-lines-place.result c.loop-place-test.true refl at c.loop-place.invariant in
    let size = ap length c.lits.ensures.lits in
    let small = c.requires.small in
    omega arith

pub loop-place-preserved : goal.loop-place-preserved
loop-place-preserved c =
    let k = c.loop-place.place-index in
    let p : ℕ = slice_index_or c.args.places.now k 0 in
    let there = counted_there c.args.lines.now c.args._group k p c.loop-place.words c.args.places.now c.loop-place-test.true refl c.loop-place.invariant in
    let at = read_at c.args.lines.now p c.index-lines-place.result there c.index-lines-place.is in
    counted_next c.args.lines.now c.args._group k p c.loop-place.words _ c.args.places.now c.index-lines-place.result c.loop-place-test.true refl at c.loop-place.invariant
    (ap (λ n. c.loop-place.words + (n + 1)) (ap length c.lits.ensures.lits))

pub returns : goal.returns
returns c =
    let low = c.loop-place-test.false in
    counted_all c.args.lines.now c.args._group c.loop-place.place-index c.loop-place.words c.args.places.now (omega arith) c.loop-place.invariant
