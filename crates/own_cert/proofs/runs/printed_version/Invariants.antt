use Rattle.std.proofs.Common.{take}
use Rattle.own_cert.proofs.RoomLemmas.{RoomFor}
use Rattle.own_cert.proofs.runs.printed_version.Given as goal

abbrev pub invariant-loop-instance : goal.invariant-loop-instance
invariant-loop-instance l = RoomFor l.room (take l.instance-index l.instance-items)
