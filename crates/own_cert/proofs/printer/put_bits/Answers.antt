use Rattle.std.proofs.Common.{◌≡◌, ◌++◌, ◌∷◌, [], ◌∙◌, ap, length, map, take, rules, arith}
use Rattle.std.proofs.lemmas.List.{take_all}
use Rattle.conflict_proof.proofs.Cases.{some_from_test}
use Rattle.own_cert.specs.Text.{digit}
use Rattle.own_cert.proofs.PrintLemmas.{bits_put}
use Rattle.own_cert.proofs.printer.put_bits.Goals as goal

pub returns : goal.returns
returns c =
    let l = c.loop-bit in
    let bits = c.args.bits.now in
    let whole : take l.bit-index bits ≡ bits = take_all l.bit-index bits (omega (arith, c.loop-bit-test.false)) in
    let space : c.push.new.self.items ≡ c.args.out.now.items ++ 32 ∷ [] = search rules in
    bits_put bits c.args.out.now.items c.push.new.self.items l.out.items (some_from_test (length bits) c.if-is_empty.ensures) space (l.invariant ∙ ap (λ w. c.push.new.self.items ++ map digit w) whole)
