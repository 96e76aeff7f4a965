use Rattle.std.proofs.Common.{◌≡◌, ◌<◌, ◌∷◌, [], ◌++◌, rules, length, arith}
use Rattle.c_types.specs.declared.kinds.SlotType.TheVariants as type
use Rattle.heap_meaning.proofs.Arguments.{passed_more}
use Rattle.heap_meaning.proofs.makes.passed_slots.Goals as goal

pub loop-kind-preserved : goal.loop-kind-preserved
loop-kind-preserved c =
    let pushed : c.push.new.self.items ≡ c.loop-kind.items.items ++ c.argument-value.result ∷ [] = search rules in
    let long : c.len.result ≡ c.loop-kind.kind-index = search rules in
    let within : c.loop-kind.kind-index < length c.args.types.now = omega arith in
    passed_more c.args.slots.now c.args.args.now c.args.types.now c.loop-kind.kind-index c.len.result type.Int c.loop-kind.items.items c.push.new.self.items c.argument-value.result
    within long pushed c.argument-value.ensures c.loop-kind.invariant.0 c.loop-kind.invariant.1
