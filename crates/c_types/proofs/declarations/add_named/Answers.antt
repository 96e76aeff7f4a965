use Rattle.std.proofs.Common.{◌+◌, ◌<◌, [], ◌∷◌, ◌++◌, drop, map, length, sym, ap, ◌∙◌, arith, append_assoc}
use Rattle.c_types.specs.Declarations.{named_info}
use Rattle.c_types.proofs.Declares.{named_at}
use Rattle.c_types.proofs.declarations.add_named.Goals as goal

pub loop-i-preserved : goal.loop-i-preserved
loop-i-preserved c =
    let tags = c.args.tags.now in
    let i = c.loop-i.i in
    let x = c.name.result.now in
    let rest = map named_info (drop (i + 1) tags) in
    let within : i < length tags = omega (arith, c.loop-i-test.true, c.len-i-end.ensures) in
    ap (λ xs. xs ++ rest) (c.in_ok-push.ensures.items ∙ ap (λ s. c.loop-i.infos.items ++ s ∷ []) c.in_ok-info.ensures)
    ∙ append_assoc c.loop-i.infos.items (named_info x ∷ []) rest
    ∙ ap (λ xs. c.loop-i.infos.items ++ xs) (sym (named_at tags i x within c.name.ensures))
    ∙ c.loop-i.invariant
