use Rattle.std.proofs.Common.{ℕ, List, slice_index_or, refl, sym, subst, arith}
use Rattle.group_solver.proofs.Placing.{AreAdded, added_none, added_there, added_next, added_all}
use Rattle.group_solver.proofs.lemmas.add_lemmas.Goals as goal

pub loop-place-init : goal.loop-place-init
loop-place-init c =
    subst (λ (ns : List ℕ). AreAdded c.args.lines.now c.args.group c.args.places.now 0 ns c.args.solver.now c.args.solver.now) (sym c.new-numbers.ensures.items)
    (added_none c.args.lines.now c.args.group c.args.places.now c.args.solver.now c.requires.lines c.requires.origins c.requires.places)

pub add_lemma-requires-clause-within : goal.add_lemma-requires-clause-within
add_lemma-requires-clause-within c =
    let k = c.loop-place.place-index in
    added_there c.args.lines.now c.args.group k (slice_index_or c.args.places.now k 0) c.args.places.now c.loop-place.numbers.items c.args.solver.now c.loop-place.solver c.loop-place-test.true refl c.loop-place.invariant

pub loop-place-preserved : goal.loop-place-preserved
loop-place-preserved c =
    let k = c.loop-place.place-index in
    added_next c.args.lines.now c.args.group k (slice_index_or c.args.places.now k 0) c.args.places.now c.loop-place.numbers.items c.add_lemma.new.places.items c.args.solver.now c.loop-place.solver c.add_lemma.new.solver
    c.loop-place-test.true refl c.loop-place.invariant (c.in_ok-add_lemma.ensures c.args.solver.now)

pub returns : goal.returns
returns c =
    let low = c.loop-place-test.false in
    added_all c.args.lines.now c.args.group c.loop-place.place-index c.args.places.now c.loop-place.numbers.items c.args.solver.now c.loop-place.solver (omega arith) c.loop-place.invariant
