use Rattle.std.proofs.Common.{◌≡◌, ℕ, ◌<◌, ◌∙◌, List, [], length, get_or, refl, subst, arith}
use Rattle.std.proofs.lemmas.List.{get_or_read}
use Rattle.std.specs.List.{Contains}
use Rattle.annotate.specs.Rings.{AddsBack}
use Rattle.annotate.proofs.BackRows.{back_none, back_one, back_all}
use Rattle.annotate.proofs.ReachRows.{all_from_contains}
use Rattle.annotate.proofs.backwards.backwards.Goals as goal

pub loop-from-init : goal.loop-from-init
loop-from-init c = back_none c.args.lists.now c.in_ok-back.back.items (length c.args.lists.now) c.in_ok-back.ensures refl

pub add_to_all-requires : goal.add_to_all-requires
add_to_all-requires c =
    let next : c.deref.result.now ≡ get_or c.args.lists.now c.loop-from.from [] =
    c.deref.ensures.value ∙ c.list.view_is ∙ get_or_read c.args.lists.now c.loop-from.from c.index-lists-from.result (omega arith) c.index-lists-from.is [] in
    all_from_contains (λ q. q < length c.loop-from.back.items) _ (λ q h.
    let small = c.requires.within c.loop-from.from q (subst (λ (us : List ℕ). Contains us q) next h) in omega (arith, small, c.loop-from.invariant.count))

pub loop-from-preserved : goal.loop-from-preserved
loop-from-preserved c =
    let next : c.deref.result.now ≡ get_or c.args.lists.now c.loop-from.from [] =
    c.deref.ensures.value ∙ c.list.view_is ∙ get_or_read c.args.lists.now c.loop-from.from c.index-lists-from.result (omega arith) c.index-lists-from.is [] in
    back_one c.args.lists.now c.loop-from.back.items c.add_to_all.new.back.items c.loop-from.from c.loop-from.invariant
    (subst (λ (xs : List ℕ). AddsBack c.loop-from.back.items xs c.loop-from.from c.add_to_all.new.back.items) next c.in_ok-add_to_all.ensures)

pub returns : goal.returns
returns c = back_all c.args.lists.now c.loop-from.back.items c.loop-from.from (omega arith) c.loop-from.invariant
