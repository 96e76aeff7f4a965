use Rattle.std.proofs.Common.{◌≡◌, ℕ, ◌+◌, ◌<◌, ◌≤◌, ◌∷◌, List, length, drop, get_or, ap, subst, sym, refl, arith}
use Rattle.std.proofs.lemmas.List.{drop_more}
use Rattle.std.proofs.lemmas.Result.{on_ok_weaker}
use Rattle.recursion_groups.specs.Walks.{list_at}
use Rattle.recursion_groups.specs.Orders.{Queued, IsQueue, IsNextOpen, Settles, watched, readied, next_at}
use Rattle.recursion_groups.proofs.QueueLemmas.{settled_waits, settled_ready}
use Rattle.recursion_groups.proofs.FoundLemmas.{contains_head}
use Rattle.recursion_groups.proofs.queue.Queue.settle.Goals as goal

pub list_of-list-requires : goal.list_of-list-requires
list_of-list-requires c =
    let class = get_or c.args.waiting.now c.args.at 0 in
    let rest = drop (c.args.at + 1) c.args.waiting.now in
    let queue : IsQueue c.args.outs.now c.args.firsts.now c.args.self.now (class ∷ rest) =
    subst (λ (us : List ℕ). IsQueue c.args.outs.now c.args.firsts.now c.args.self.now us) (drop_more c.args.waiting.now c.args.at 0 c.requires.at) c.requires.queue in
    (queue.unsettled class (contains_head class class rest refl)).0

pub returns-then-next-list : goal.returns-then-next-list
returns-then-next-list c =
    let class = get_or c.args.waiting.now c.args.at 0 in
    let rest = drop (c.args.at + 1) c.args.waiting.now in
    let r = c.next_of-next.result in
    let on = get_or c.list_of-list.result.now r 0 in
    let queue : IsQueue c.args.outs.now c.args.firsts.now c.args.self.now (class ∷ rest) =
    subst (λ (us : List ℕ). IsQueue c.args.outs.now c.args.firsts.now c.args.self.now us) (drop_more c.args.waiting.now c.args.at 0 c.requires.at) c.requires.queue in
    let lt : class < length c.args.outs.now = (queue.unsettled class (contains_head class class rest refl)).0 in
    let open_at : IsNextOpen (list_at c.args.outs.now class) c.args.self.now.placed (next_at c.args.self.now class) r =
    subst (λ (us : List ℕ). IsNextOpen us c.args.self.now.placed (next_at c.args.self.now class) r) c.list_of-list.ensures c.next_of-next.ensures in
    let same : get_or (list_at c.args.outs.now class) r 0 ≡ on = ap (λ (us : List ℕ). get_or us r 0) (sym c.list_of-list.ensures) in
    let more : r < length (list_at c.args.outs.now class) = subst (λ (us : List ℕ). r < length us) c.list_of-list.ensures (omega (arith, c.if-next-list.true)) in
    on_ok_weaker c.watch.result
    (λ e.
    let done : Settles c.args.outs.now c.args.firsts.now c.args.self.now (watched c.args.self.now class r on) rest = record {
      queue = settled_waits c.args.outs.now c.args.firsts.now c.args.self.now class rest r queue open_at on same more
          (subst (λ (k : ℕ). k < length c.args.outs.now) same (c.requires.below class _ lt r 0 more));
      same = refl;
    } in
    subst (λ (w : Queued). Settles c.args.outs.now c.args.firsts.now c.args.self.now w rest) (sym e) done)
    c.watch.ensures

pub returns-else-next-list : goal.returns-else-next-list
returns-else-next-list c =
    let class = get_or c.args.waiting.now c.args.at 0 in
    let rest = drop (c.args.at + 1) c.args.waiting.now in
    let r = c.next_of-next.result in
    let queue : IsQueue c.args.outs.now c.args.firsts.now c.args.self.now (class ∷ rest) =
    subst (λ (us : List ℕ). IsQueue c.args.outs.now c.args.firsts.now c.args.self.now us) (drop_more c.args.waiting.now c.args.at 0 c.requires.at) c.requires.queue in
    let open_at : IsNextOpen (list_at c.args.outs.now class) c.args.self.now.placed (next_at c.args.self.now class) r =
    subst (λ (us : List ℕ). IsNextOpen us c.args.self.now.placed (next_at c.args.self.now class) r) c.list_of-list.ensures c.next_of-next.ensures in
    let end : length (list_at c.args.outs.now class) ≤ r = subst (λ (us : List ℕ). length us ≤ r) c.list_of-list.ensures (omega (arith, c.if-next-list.false)) in
    on_ok_weaker c.make_ready.result
    (λ e.
    let done : Settles c.args.outs.now c.args.firsts.now c.args.self.now (readied c.args.self.now class r (get_or c.args.firsts.now class 0)) rest = record {
      queue = settled_ready c.args.outs.now c.args.firsts.now c.args.self.now class rest r queue open_at end;
      same = refl;
    } in
    subst (λ (w : Queued). Settles c.args.outs.now c.args.firsts.now c.args.self.now w rest) (sym e) done)
    c.make_ready.ensures
