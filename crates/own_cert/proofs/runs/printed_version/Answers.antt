use Rattle.std.proofs.Common.{◌≡◌, Some, None, rules}
use Rattle.own_cert.specs.Runs.{room_after_rows}
use Rattle.own_cert.proofs.RoomLemmas.{not_fits, room_more, less}
use Rattle.own_cert.proofs.runs.printed_version.Goals as goal

pub returns-in-None : goal.returns-in-None
returns-in-None c =
    let l = c.loop-instance in
    let is = c.deref-instance-items.result.now in
    let i = c.instance-item.result in
    let all : is ≡ c.args.c.now.instances = search rules in
    let none : room_after_rows l.room i.places ≡ None = search rules in
    not_fits c.args.c.now is l.instance-index i l.room all c.loop-instance-test.true c.instance-item.is l.invariant none

pub loop-instance-preserved : goal.loop-instance-preserved
loop-instance-preserved c =
    let l = c.loop-instance in
    let is = c.deref-instance-items.result.now in
    let i = c.instance-item.result in
    let some : room_after_rows l.room i.places ≡ Some c.in-Some.left = search rules in
    room_more is l.instance-index i l.room c.in-Some.left c.loop-instance-test.true c.instance-item.is l.invariant (less l.room c.in-Some.left i.places some)
