use Rattle.std.proofs.Common.{◌≡◌, ℕ, ◌+◌, true, false, List, length, Some, slice_get, sym, ap, subst, ◌∙◌, arith}
use Rattle.std.proofs.lemmas.List.{length_push}
use Rattle.std.proofs.lemmas.Option.{slice_get-get_or}
use Rattle.group_solver.specs.Copies.{IsCopying, IsPut}
use Rattle.group_solver.specs.Rows.{rows_in}
use Rattle.group_solver.proofs.Lists.{get_below}
use Rattle.group_solver.proofs.Copied.{put_next, skip_next, room_at}
use Rattle.group_solver.proofs.copying.copy.Goals as goal

pub copy_line-requires-clause-room : goal.copy_line-requires-clause-room
copy_line-requires-clause-room c cl at =
    let i = c.loop-at.invariant in
    room_at (rows_in c.args.table.now) c.args.group c.args.vars c.args.solver.now c.args.wanted.now c.args.ledger.now c.loop-at.ledger c.loop-at.places.items i.copying (c.loop-at.at + 1) cl (let p = i.place in omega arith) at

pub loop-at-preserved-then-not-wanted-at : goal.loop-at-preserved-then-not-wanted-at
loop-at-preserved-then-not-wanted-at c =
    let i = c.loop-at.invariant in
    let p = i.place in
    let lt = c.loop-at-test.true in
    let there = c.requires.there in
    let size = length_push c.loop-at.places.items 0 in
    let more = ap length c.in_ok-push.ensures.items in
    let unmarked : slice_get c.args.wanted.now c.loop-at.at ≡ Some false = slice_get-get_or c.args.wanted.now c.loop-at.at false lt ∙ ap Some c.if-not-wanted-at.true in
    let here = get_below c.args.solver.now.lines (length c.loop-at.places.items) (omega arith) in
    record {
      copying = subst (λ (ns : List ℕ). IsCopying (rows_in c.args.table.now) c.args.group c.args.vars c.args.solver.now c.args.wanted.now c.args.ledger.now c.loop-at.ledger ns) (sym c.in_ok-push.ensures.items)
          (skip_next (rows_in c.args.table.now) c.args.group c.args.vars c.args.solver.now c.args.wanted.now c.args.ledger.now c.loop-at.ledger c.loop-at.places.items i.copying here.0 here.1
          (subst (λ (n : ℕ). slice_get c.args.wanted.now n ≡ Some false) p unmarked));
      place = omega arith;
    }

pub loop-at-preserved : goal.loop-at-preserved
loop-at-preserved c =
    let i = c.loop-at.invariant in
    let p = i.place in
    let lt = c.loop-at-test.true in
    let first = c.loop-at.auto.at in
    let count = c.len-at.ensures in
    let size = length_push c.loop-at.places.items c.in_ok-place.place in
    let more = ap length c.in_ok-push-2.ensures.items in
    let marked : slice_get c.args.wanted.now c.loop-at.at ≡ Some true = slice_get-get_or c.args.wanted.now c.loop-at.at false lt ∙ ap Some c.if-not-wanted-at.false in
    let put : IsPut (rows_in c.args.table.now) c.args.group c.args.vars c.args.solver.now c.loop-at.places.items (c.loop-at.at + 1) c.loop-at.ledger c.copy_line.new.ledger c.in_ok-place.place =
    subst (λ (ns : List ℕ). IsPut (rows_in c.args.table.now) c.args.group c.args.vars c.args.solver.now ns (c.loop-at.at + 1) c.loop-at.ledger c.copy_line.new.ledger c.in_ok-place.place) c.deref.ensures.value c.in_ok-place.ensures in
    record {
      copying = subst (λ (ns : List ℕ). IsCopying (rows_in c.args.table.now) c.args.group c.args.vars c.args.solver.now c.args.wanted.now c.args.ledger.now c.copy_line.new.ledger ns) (sym c.in_ok-push-2.ensures.items)
          (put_next (rows_in c.args.table.now) c.args.group c.args.vars c.args.solver.now c.args.wanted.now c.args.ledger.now c.loop-at.ledger c.loop-at.places.items i.copying c.copy_line.new.ledger (c.loop-at.at + 1) c.in_ok-place.place
          (omega arith) put (length c.args.places.now.items) c.lines-lines.ensures.apart c.requires.closed (omega (arith, c.args.places.now.ok.0))
          (subst (λ (n : ℕ). slice_get c.args.wanted.now n ≡ Some true) p marked));
      place = omega arith;
    }
