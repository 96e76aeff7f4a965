use Rattle.std.proofs.Common.{◌≡◌, ◌++◌, ◌∙◌, length, ap, sym, arith}
use Rattle.owner_vars.specs.Tables.{pointers_before}
use Rattle.owner_vars.proofs.FieldLemmas.{pointers_are}
use Rattle.owner_vars.proofs.field_walk.add_places.Goals as goal

pub returns : goal.returns
returns c =
    let kinds = c.args.kinds.now in
    let before = c.args.places.now.items in
    let all : c.loop-place.place ≡ length kinds = omega (arith, c.loop-place-test.false, c.loop-place.auto.place-end) in
    c.loop-place.invariant
    ∙ ap (λ n. before ++ pointers_before n kinds) all
    ∙ ap (λ us. before ++ us) (sym (pointers_are kinds))
