use Rattle.std.proofs.Common.{◌≡◌, ◌+◌, ◌∷◌, [], length, ap, ◌∙◌, arith}
use Rattle.std.proofs.lemmas.List.{length-append}
use Rattle.zo_solver.specs.Derived.{Ledger}
use Rattle.zo_solver.specs.Clauses.{cost}
use Rattle.zo_solver.proofs.Storing.{cost-push}
use Rattle.zo_solver.proofs.Bucketing.{linked-append, apart-push}
use Rattle.zo_solver.proofs.Costs.{few_more}
use Rattle.zo_solver.proofs.lines.Lines.push.Goals as goal

pub unwrap-requires : goal.unwrap-requires
unwrap-requires c =
    let put = c.push.ensures.put c.if-not-push.false in
    let cs : c.self.inside.store.clauses ≡ c.args.self.now.clauses = ap (λ (l : Ledger). l.clauses) c.self.view_is in
    let few = few_more c.self.inside.store c.push.new.self c.args.lits.now c.self.invariant.apart (rw (← cs) at c.requires) put.0 put.1 in
    let fit = c.self.invariant.origins_fit in
    let count = c.self.invariant.origins_count in
    c.push-2.ensures.succeeds (omega arith)

pub link-requires-clause-room : goal.link-requires-clause-room
link-requires-clause-room c =
    let put = c.push.ensures.put c.if-not-push.false in
    let cs : c.self.inside.store.clauses ≡ c.args.self.now.clauses = ap (λ (l : Ledger). l.clauses) c.self.view_is in
    let few = few_more c.self.inside.store c.push.new.self c.args.lits.now c.self.invariant.apart (rw (← cs) at c.requires) put.0 put.1 in
    let fit = c.self.invariant.links_fit in
    let count = c.self.invariant.links_count in
    omega arith

pub grow-requires-clause-room : goal.grow-requires-clause-room
grow-requires-clause-room c =
    let put = c.push.ensures.put c.if-not-push.false in
    let cs : c.self.inside.store.clauses ≡ c.args.self.now.clauses = ap (λ (l : Ledger). l.clauses) c.self.view_is in
    let few = few_more c.self.inside.store c.push.new.self c.args.lits.now c.self.invariant.apart (rw (← cs) at c.requires) put.0 put.1 in
    let more : length c.push.new.self.clauses ≡ length c.self.inside.store.clauses + 1 = ap length put.0 ∙ length-append c.self.inside.store.clauses (c.args.lits.now ∷ []) in
    let fit = c.self.invariant.links_fit in
    let room = c.link.ensures.room in
    omega arith

pub link-requires-clause-small : goal.link-requires-clause-small
link-requires-clause-small c = let s = c.len-small.ensures.small in omega arith

pub link-requires-clause-linked : goal.link-requires-clause-linked
link-requires-clause-linked c =
    let put = c.push.ensures.put c.if-not-push.false in
    rw (put.0, c.as_mut_slice.ensures.value, c.self.invariant.links_length)
    (linked-append c.self.inside.store.clauses (c.args.lits.now ∷ []) (length c.self.inside.store.clauses) c.self.inside.heads.items c.self.inside.links.items (omega arith) c.self.invariant.linked)

pub grow-requires-clause-small : goal.grow-requires-clause-small
grow-requires-clause-small c = let s = c.len-small.ensures.small in omega arith

pub invariant_of-self-2 : goal.invariant_of-self-2
invariant_of-self-2 c =
    let put = c.push.ensures.put c.if-not-push.false in
    let words = put.1 in
    let cs : c.self.inside.store.clauses ≡ c.args.self.now.clauses = ap (λ (l : Ledger). l.clauses) c.self.view_is in
    let more : length c.push.new.self.clauses ≡ length c.self.inside.store.clauses + 1 = ap length put.0 ∙ length-append c.self.inside.store.clauses (c.args.lits.now ∷ []) in
    let items = rw c.unwrap.ensures at c.push-2.ensures.items in
    let origins : length c.push-2.new.self.items ≡ length c.self.inside.origins.items + 1 = ap length items ∙ length-append c.self.inside.origins.items (c.args.origin ∷ []) in
    let origins_old = c.self.invariant.origins_length in
    let origins_ok = c.push-2.new.self.ok.0 in
    let heads_ok = c.grow.new.heads.ok.0 in
    let links_ok = c.grow.new.links.ok.0 in
    let links_count = c.grow.ensures.count in
    let grow_room = c.grow.ensures.room in
    let link_room = c.link.ensures.room in
    let push_room = c.push-2.ensures.capacity in
    let origins_fit = c.self.invariant.origins_fit in
    let links_fit = c.self.invariant.links_fit in
    let costs : cost c.push.new.self.clauses ≡ cost c.self.inside.store.clauses + (length c.args.lits.now + 1) = ap cost put.0 ∙ cost-push c.self.inside.store.clauses c.args.lits.now in
    record {
      apart = rw put.0 (apart-push c.self.inside.store.clauses c.args.lits.now c.self.invariant.apart (rw (← cs) at c.requires));
      origins_length = omega arith;
      origins_count = omega arith;
      origins_fit = omega arith;
      links_length = links_count;
      links_count = omega arith;
      links_fit = omega arith;
      heads_count = heads_ok;
      some = c.grow.ensures.some;
      linked = c.grow.ensures.linked;
    }
