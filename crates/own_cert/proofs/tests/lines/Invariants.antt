use Rattle.std.proofs.Common.{◌≤◌, length}
use Rattle.own_cert.specs.declared.lines.Version.TheVariants.{First}
use Rattle.own_cert.specs.Text.{lines_of}
use Rattle.own_cert.proofs.tests.lines.Given as goal

abbrev pub invariant-loop-i : goal.invariant-loop-i
invariant-loop-i g l = 13 ≤ length (lines_of First l.certificate)
