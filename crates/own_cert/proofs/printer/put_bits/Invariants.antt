use Rattle.std.proofs.Common.{◌≡◌, ◌++◌, map, take}
use Rattle.own_cert.specs.Text.{digit}
use Rattle.own_cert.proofs.printer.put_bits.Given as goal

abbrev pub invariant-loop-bit : goal.invariant-loop-bit
invariant-loop-bit l = l.out.items ≡ l.initial.out.items ++ map digit (take l.bit-index l.bits)
