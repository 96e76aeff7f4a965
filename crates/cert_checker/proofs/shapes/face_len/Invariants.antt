use Rattle.std.proofs.Common.{◌≡◌, take}
use Rattle.std.specs.Prelude.{sum_by}
use Rattle.cert_checker.proofs.shapes.face_len.Given as goal

abbrev pub invariant-loop-proc : goal.invariant-loop-proc
invariant-loop-proc g l = l.len ≡ sum_by (g.G.Groups.system l.groups).parts (take l.proc-index l.members)
