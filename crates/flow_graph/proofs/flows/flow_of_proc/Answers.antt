use Rattle.std.proofs.Common.{◌≤◌, arith, append-nil, sym, Ok, Err, length, Result}
use Rattle.std.specs.Result.{OnOk}
use Rattle.std.proofs.lemmas.Bool.Decides.{nat_tests}
use Rattle.flow_graph.proofs.FlowRows.{body_count-le, item_got, item_missing}
use Rattle.flow_graph.proofs.flows.flow_of_proc.Goals as goal

on_ok : {T E : Type 0} (P : Type 0) (r : Result T E) → P → OnOk r P
on_ok P (Ok x) p = p
on_ok P (Err e) p = tt

pub flow_of_item-requires-clause-fits : goal.flow_of_item-requires-clause-fits
flow_of_item-requires-clause-fits c =
    let b = body_count-le c.args.tree.now.procs c.args.info.now.item c.in-Some.item.now (rw c.as_slice-items.ensures at c.in-Some.ensures.lookup.0) (rw c.as_slice-items.ensures at c.in-Some.ensures.lookup.1) in
    omega (arith, b, c.requires.fits)

pub returns-in-None-clause-texts : goal.returns-in-None-clause-texts
returns-in-None-clause-texts c =
    let h = rw c.as_slice-items.ensures at c.in-None.ensures.lookup.0 in
    let n : length c.args.tree.now.procs ≤ c.args.info.now.item = grind (arith, nat_tests) in
    rw (item_missing c.args.tree.now.procs c.args.info.now.item n) (on_ok _ _ (sym (append-nil c.args.seen.now.texts)))

pub returns-in-Some-clause-flow : goal.returns-in-Some-clause-flow
returns-in-Some-clause-flow c =
    let e = item_got c.args.tree.now.procs c.args.info.now.item c.in-Some.item.now (rw c.as_slice-items.ensures at c.in-Some.ensures.lookup.0) (rw c.as_slice-items.ensures at c.in-Some.ensures.lookup.1) in
    rw e c.flow_of_item.ensures.flow

pub returns-in-Some-clause-texts : goal.returns-in-Some-clause-texts
returns-in-Some-clause-texts c =
    let e = item_got c.args.tree.now.procs c.args.info.now.item c.in-Some.item.now (rw c.as_slice-items.ensures at c.in-Some.ensures.lookup.0) (rw c.as_slice-items.ensures at c.in-Some.ensures.lookup.1) in
    rw e c.flow_of_item.ensures.texts
