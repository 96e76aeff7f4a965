use Rattle.std.proofs.Common.{◌≡◌, ◌∷◌, map, take}
use Rattle.cert_checker.specs.Tables.{key_bit}
use Rattle.cert_checker.proofs.keys.key_of.Given as goal

abbrev pub invariant-loop-bit : goal.invariant-loop-bit
invariant-loop-bit g l = l.key.items ≡ l.instance.group ∷ l.instance.entry ∷ map key_bit (take l.bit-index l.bits)
