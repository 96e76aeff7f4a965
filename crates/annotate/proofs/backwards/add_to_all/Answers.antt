use Rattle.std.proofs.Common.{◌≡◌, ℕ, ◌<◌, length, get_or, arith}
use Rattle.std.proofs.lemmas.List.Elements.{All-get_or}
use Rattle.annotate.proofs.BackRows.{adds_none, adds_one}
use Rattle.annotate.proofs.ReachRows.{any_default}
use Rattle.annotate.proofs.backwards.add_to_all.Goals as goal

pub loop-number-init : goal.loop-number-init
loop-number-init c = adds_none c.args.back.now.items c.args.numbers.now c.args.from

pub loop-number-preserved : goal.loop-number-preserved
loop-number-preserved c =
    let xs = c.args.numbers.now in
    let i = c.loop-number.number-index in
    let lt : i < length xs = c.loop-number-test.true in
    let within = All-get_or (λ q. q < length c.args.back.now.items) xs i 0 lt c.requires in
    adds_one c.args.back.now.items c.loop-number.back.items c.add.new.lists.items xs c.args.from i (get_or xs i 0) lt (any_default xs i 0 (get_or xs i 0) lt) c.loop-number.invariant
    (omega (arith, within, c.loop-number.invariant.count)) c.in_ok-add.ensures
