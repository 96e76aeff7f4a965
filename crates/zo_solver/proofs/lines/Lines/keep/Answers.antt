use Rattle.std.proofs.Common.{◌≡◌, ℕ, ◌+◌, [], length, sym, ap, ◌∙◌, arith}
use Rattle.std.proofs.lemmas.List.{length-set, length-take-le}
use Rattle.std.specs.Vec.{vec_capacity}
use Rattle.zo_solver.specs.Clauses.{cost}
use Rattle.std.specs.Prelude.{Vec}
use Rattle.std.specs.Global.{Global}
use Rattle.zo_solver.specs.Stores.{Shelf, AreNumbers, picked}
use Rattle.zo_solver.specs.Derived.{Ledger, renumbered_origin}
use Rattle.zo_solver.proofs.Keeping.{numbers-low, numbers-high, numbers-few, written_back, length-picked}
use Rattle.zo_solver.proofs.Picking.{numbers-wider, kept_origin, apart-picked}
use Rattle.zo_solver.proofs.Costs.{few_lines}
use Rattle.zo_solver.proofs.lines.Lines.keep.Goals as goal

pub overflow_sub-numbers : goal.overflow_sub-numbers
overflow_sub-numbers c = let low = numbers-low 0 (length c.args.self.now.clauses) c.args.numbers.now c.loop-at.at 0 c.requires.numbers (omega arith) in omega arith

pub index-requires : goal.index-requires
index-requires c =
    let view : length c.args.self.now.clauses ≡ length c.self.inside.store.clauses = ap (λ (l : Ledger). length l.clauses) (sym c.self.view_is) in
    let same = c.self.invariant.origins_length in
    let numbers : AreNumbers 0 (length c.self.inside.origins.items) c.args.numbers.now = rw (view, ← same) at c.requires.numbers in
    let low = numbers-low 0 _ c.args.numbers.now c.loop-at.at 0 numbers (omega arith) in
    let high = numbers-high 0 _ c.args.numbers.now c.loop-at.at 0 numbers (omega arith) in
    let len = c.loop-at.invariant.len in
    let ok = c.loop-at.self-inside.origins.ok.0 in
    omega arith

pub renumbered-requires : goal.renumbered-requires
renumbered-requires c =
    let view : length c.args.self.now.clauses ≡ length c.self.inside.store.clauses = ap (λ (l : Ledger). length l.clauses) (sym c.self.view_is) in
    let small = c.len-small.ensures.small in
    record { order = numbers-wider 0 (length c.args.self.now.clauses) _ c.args.numbers.now (omega arith) c.requires.numbers }

pub index_mut-requires : goal.index_mut-requires
index_mut-requires c =
    let view : length c.args.self.now.clauses ≡ length c.self.inside.store.clauses = ap (λ (l : Ledger). length l.clauses) (sym c.self.view_is) in
    let same = c.self.invariant.origins_length in
    let numbers : AreNumbers 0 (length c.self.inside.origins.items) c.args.numbers.now = rw (view, ← same) at c.requires.numbers in
    let few = numbers-few 0 _ c.args.numbers.now (omega arith) numbers in
    let len = c.loop-at.invariant.len in
    let ok = c.loop-at.self-inside.origins.ok.0 in
    omega arith

pub loop-at-preserved : goal.loop-at-preserved
loop-at-preserved c =
    let view : length c.args.self.now.clauses ≡ length c.self.inside.store.clauses = ap (λ (l : Ledger). length l.clauses) (sym c.self.view_is) in
    let same = c.self.invariant.origins_length in
    let numbers : AreNumbers 0 (length c.self.inside.origins.items) c.args.numbers.now = rw (view, ← same) at c.requires.numbers in
    let step = kept_origin (renumbered_origin c.args.numbers.now) c.loop-at.self-inside.origins.items c.self.inside.origins.items c.args.numbers.now c.loop-at.at c.index.result.now c.renumbered.result numbers (omega arith) c.loop-at.invariant.front c.loop-at.invariant.behind c.loop-at.invariant.len c.index.ensures c.renumbered.ensures in
    record {
      store = c.loop-at.invariant.store;
      heads = c.loop-at.invariant.heads;
      links = c.loop-at.invariant.links;
      front = step.0;
      behind = step.1;
      len = length-set c.loop-at.self-inside.origins.items c.loop-at.at c.renumbered.result ∙ c.loop-at.invariant.len;
      room = c.loop-at.invariant.room;
    }

pub relink-requires-clause-small : goal.relink-requires-clause-small
relink-requires-clause-small c =
    let view : length c.args.self.now.clauses ≡ length c.self.inside.store.clauses = ap (λ (l : Ledger). length l.clauses) (sym c.self.view_is) in
    let numbers : AreNumbers 0 (length c.self.inside.store.clauses) c.args.numbers.now = rw view at c.requires.numbers in
    let few = numbers-few 0 (length c.self.inside.store.clauses) c.args.numbers.now (omega arith) numbers in
    let clauses_is : c.keep.new.self.clauses ≡ picked [] c.self.inside.store.clauses c.args.numbers.now = c.keep.ensures.clauses ∙ ap (λ (s : Shelf). picked [] s.clauses c.args.numbers.now) c.loop-at.invariant.store in
    let kept : length c.keep.new.self.clauses ≡ length c.args.numbers.now = ap length clauses_is ∙ length-picked [] c.self.inside.store.clauses 0 (length c.self.inside.store.clauses) c.args.numbers.now numbers in
    let small = c.len-small.ensures.small in
    omega arith

pub relink-requires-clause-room : goal.relink-requires-clause-room
relink-requires-clause-room c =
    let view : length c.args.self.now.clauses ≡ length c.self.inside.store.clauses = ap (λ (l : Ledger). length l.clauses) (sym c.self.view_is) in
    let numbers : AreNumbers 0 (length c.self.inside.store.clauses) c.args.numbers.now = rw view at c.requires.numbers in
    let few = numbers-few 0 (length c.self.inside.store.clauses) c.args.numbers.now (omega arith) numbers in
    let clauses_is : c.keep.new.self.clauses ≡ picked [] c.self.inside.store.clauses c.args.numbers.now = c.keep.ensures.clauses ∙ ap (λ (s : Shelf). picked [] s.clauses c.args.numbers.now) c.loop-at.invariant.store in
    let kept : length c.keep.new.self.clauses ≡ length c.args.numbers.now = ap length clauses_is ∙ length-picked [] c.self.inside.store.clauses 0 (length c.self.inside.store.clauses) c.args.numbers.now numbers in
    let most = few_lines c.self.inside.store.clauses c.self.invariant.apart in
    let fit = c.self.invariant.links_fit in
    let cap : vec_capacity c.loop-at.self-inside.links ≡ vec_capacity c.self.inside.links = ap vec_capacity c.loop-at.invariant.links in
    omega arith

pub invariant_of-self : goal.invariant_of-self
invariant_of-self c =
    let view : length c.args.self.now.clauses ≡ length c.self.inside.store.clauses = ap (λ (l : Ledger). length l.clauses) (sym c.self.view_is) in
    let numbers : AreNumbers 0 (length c.self.inside.store.clauses) c.args.numbers.now = rw view at c.requires.numbers in
    let few = numbers-few 0 (length c.self.inside.store.clauses) c.args.numbers.now (omega arith) numbers in
    let clauses_is : c.keep.new.self.clauses ≡ picked [] c.self.inside.store.clauses c.args.numbers.now = c.keep.ensures.clauses ∙ ap (λ (s : Shelf). picked [] s.clauses c.args.numbers.now) c.loop-at.invariant.store in
    let kept : length c.keep.new.self.clauses ≡ length c.args.numbers.now = ap length clauses_is ∙ length-picked [] c.self.inside.store.clauses 0 (length c.self.inside.store.clauses) c.args.numbers.now numbers in
    let value = ap length c.as_mut_slice.ensures.value in
    let heads_len : c.loop-at.self-inside.heads.len ≡ length c.relink.new.heads = c.loop-at.self-inside.heads.ok.0 ∙ sym value ∙ sym c.relink.auto.heads in
    let heads_same : length c.loop-at.self-inside.heads.items ≡ length c.self.inside.heads.items = ap (λ (v : Vec ℕ Global). length v.items) c.loop-at.invariant.heads in
    let heads_ok = c.loop-at.self-inside.heads.ok.0 in
    let some = c.self.invariant.some in
    let same = c.self.invariant.origins_length in
    let loop_len = c.loop-at.invariant.len in
    let cut : length c.truncate.new.self.items ≡ length c.args.numbers.now = ap length c.truncate.ensures.items ∙ length-take-le (length c.args.numbers.now) c.loop-at.self-inside.origins.items (omega arith) in
    let cut_ok = c.truncate.new.self.ok.0 in
    let cut_cap = c.truncate.ensures.capacity in
    let loop_cap = c.loop-at.invariant.room in
    let words = c.keep.ensures.words in
    let old_words : c.loop-at.self-inside.store.words + cost c.loop-at.self-inside.store.clauses ≡ c.self.inside.store.words + cost c.self.inside.store.clauses = ap (λ (s : Shelf). s.words + cost s.clauses) c.loop-at.invariant.store in
    let origins_fit = c.self.invariant.origins_fit in
    let links_fit = c.self.invariant.links_fit in
    let links_cap : vec_capacity c.loop-at.self-inside.links ≡ vec_capacity c.self.inside.links = ap vec_capacity c.loop-at.invariant.links in
    let relink_cap = c.relink.ensures.room in
    let count = c.relink.ensures.count in
    let links_ok = c.relink.new.links.ok.0 in
    rw (written_back c.relink.new.heads c.loop-at.self-inside.heads.items c.loop-at.self-inside.heads.len heads_len) (
    record {
      apart = rw clauses_is (apart-picked c.self.inside.store.clauses c.args.numbers.now numbers c.self.invariant.apart);
      origins_length = omega arith;
      origins_count = omega arith;
      origins_fit = omega arith;
      links_length = count;
      links_count = omega arith;
      links_fit = omega arith;
      heads_count = heads_len;
      some = omega arith;
      linked = c.relink.ensures.linked;
    })
