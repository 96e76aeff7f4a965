use Rattle.std.proofs.Common.{rules, [], length, List, ℕ, refl, ap, sym, subst, ◌∙◌, arith}
use Rattle.recursion_groups.specs.Orders.{Queued, IsQueue, AreBelow, Settles}
use Rattle.recursion_groups.proofs.QueueLemmas.{IsSoFar, queue_begins, so_far_begins, first_within, class_within, class_placed, round_less, round_keeps, order_ends, outs_below}
use Rattle.recursion_groups.proofs.queue.class_order.Goals as goal

pub settle_all-requires-clause-below : goal.settle_all-requires-clause-below
settle_all-requires-clause-below c = outs_below c.args.outs.now c.args.firsts.now c.args.of.now c.requires.outs

pub settle_all-requires-in-Some-clause-below : goal.settle_all-requires-in-Some-clause-below
settle_all-requires-in-Some-clause-below c = outs_below c.args.outs.now c.args.firsts.now c.args.of.now c.requires.outs

pub settle_all-requires-clause-queue : goal.settle_all-requires-clause-queue
settle_all-requires-clause-queue c =
    let all : AreBelow (length c.args.outs.now) c.deref.result.now =
    subst (λ (us : List ℕ). AreBelow (length c.args.outs.now) us) (sym (c.deref.ensures.value ∙ c.all.view_is)) c.in_ok-all.ensures in
    subst (λ (w : Queued). IsQueue c.args.outs.now c.args.firsts.now w c.deref.result.now) (sym c.in_ok-queue.ensures)
    (queue_begins c.args.outs.now c.args.firsts.now c.deref.result.now (length c.args.outs.now) refl all.all all.only)

pub loop-first-init : goal.loop-first-init
loop-first-init c =
    let settled : Settles c.args.outs.now c.args.firsts.now _ c.settle_all.new.self [] =
    subst (λ (w : Queued). Settles c.args.outs.now c.args.firsts.now w c.settle_all.new.self []) c.in_ok-queue.ensures c.in_ok-settle_all.ensures in
    subst (λ (us : List ℕ). IsSoFar c.args.outs.now c.args.firsts.now c.settle_all.new.self us) (sym c.new-order.ensures.items)
    (so_far_begins c.args.outs.now c.args.firsts.now c.settle_all.new.self (length c.args.outs.now) refl settled)

pub bounds-of-first : goal.bounds-of-first
bounds-of-first c =
    first_within c.args.outs.now c.args.firsts.now c.args.of.now c.requires.outs c.loop-first.queue c.take_least.new.self c.in-Some.first c.loop-first.order.items c.loop-first.invariant c.in-Some.ensures

pub place-waiting-requires-clause-placed : goal.place-waiting-requires-clause-placed
place-waiting-requires-clause-placed c =
    let lt = class_within c.args.outs.now c.args.firsts.now c.args.of.now c.requires.outs c.loop-first.queue c.take_least.new.self c.in-Some.first c.loop-first.order.items c.loop-first.invariant c.in-Some.ensures in
    omega (arith, lt, c.loop-first.invariant.queue.placed_count, ap (λ (w : Queued). length w.placed) c.in-Some.ensures.rest)

pub place-waiting-requires-clause-watchers : goal.place-waiting-requires-clause-watchers
place-waiting-requires-clause-watchers c =
    let lt = class_within c.args.outs.now c.args.firsts.now c.args.of.now c.requires.outs c.loop-first.queue c.take_least.new.self c.in-Some.first c.loop-first.order.items c.loop-first.invariant c.in-Some.ensures in
    omega (arith, lt, c.loop-first.invariant.queue.watch_count, ap (λ (w : Queued). length w.watchers) c.in-Some.ensures.rest)

pub settle_all-requires-in-Some-clause-queue : goal.settle_all-requires-in-Some-clause-queue
settle_all-requires-in-Some-clause-queue c =
    subst (λ (us : List ℕ). IsQueue c.args.outs.now c.args.firsts.now c.place-waiting.new.self us) (sym (c.deref-in-Some.ensures.value ∙ c.waiting.view_is ∙ c.place-waiting.ensures.waiting))
    (class_placed c.args.outs.now c.args.firsts.now c.args.of.now c.requires.outs c.loop-first.queue c.take_least.new.self c.in-Some.first c.loop-first.order.items c.loop-first.invariant c.in-Some.ensures
    c.place-waiting.new.self c.place-waiting.ensures.queue)

pub loop-first-smaller : goal.loop-first-smaller
loop-first-smaller c =
    let less = round_less c.args.outs.now c.args.firsts.now c.args.of.now c.requires.outs c.loop-first.queue c.take_least.new.self c.in-Some.first c.loop-first.order.items c.loop-first.invariant c.in-Some.ensures
    c.place-waiting.new.self c.settle_all-in-Some.new.self c.place-waiting.ensures.queue c.in_ok-settle_all-2.ensures c.push.new.self.items (search rules) in
    omega (arith, less)

pub loop-first-preserved : goal.loop-first-preserved
loop-first-preserved c =
    round_keeps c.args.outs.now c.args.firsts.now c.args.of.now c.requires.outs c.loop-first.queue c.take_least.new.self c.in-Some.first c.loop-first.order.items c.loop-first.invariant c.in-Some.ensures
    c.place-waiting.new.self c.settle_all-in-Some.new.self c.place-waiting.ensures.queue c.in_ok-settle_all-2.ensures c.push.new.self.items (search rules)

pub returns : goal.returns
returns c =
    order_ends c.args.outs.now c.args.firsts.now c.args.of.now c.requires.outs c.loop-first.queue c.loop-first.order.items c.loop-first.invariant c.in_default.ensures
