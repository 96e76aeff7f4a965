use Rattle.std.proofs.Common.{◌≡◌, map, take}
use Rattle.own_cert.specs.Text.{digit}
use Rattle.own_cert.proofs.line_reader.digits.Given as goal

abbrev pub invariant-loop-byte : goal.invariant-loop-byte
invariant-loop-byte l = map digit l.items.items ≡ take l.byte-index l.text
