use Rattle.std.proofs.Common.{rules, ◌≡◌, ◌<◌, ◌∙◌, Some, None, length, slice_get, ap, refl, sym, subst, arith}
use Rattle.annotate.specs.Walks.{taken_at, list_at, with_taken, left, Advances}
use Rattle.annotate.proofs.WalkRows.{last_within, to_within, advances, goes_back, same_taken}
use Rattle.annotate.proofs.walk.advance.Goals as goal

pub taken-place-requires : goal.taken-place-requires
taken-place-requires c = omega (arith, last_within c.args.lists.now c.args.walk.now c.requires.walk c.args.from c.requires.last, c.requires.walk.taken_count)

pub target-requires : goal.target-requires
target-requires c = last_within c.args.lists.now c.args.walk.now c.requires.walk c.args.from c.requires.last

pub enter_new-requires : goal.enter_new-requires
enter_new-requires c =
    let is : slice_get (list_at c.args.lists.now c.args.from) (taken_at c.args.walk.now c.args.from) ≡ Some c.in-Some.to =
    ap (slice_get (list_at c.args.lists.now c.args.from)) (sym c.taken-place.ensures) ∙ sym c.in-Some.ensures.number in
    omega (arith, to_within c.args.lists.now c.args.walk.now c.requires.walk c.args.from c.requires.last c.requires.within c.in-Some.to is, c.requires.walk.seen_count)

pub take-requires-clause-few : goal.take-requires-clause-few
take-requires-clause-few c =
    let same = same_taken c.args.walk.now c.enter_new.new.walk c.in-Some.to c.args.from c.in_ok-enter_new-in-Some.ensures in
    let few : c.taken-place.result < 18446744073709551615 = c.in-Some.ensures.few refl in
    omega (arith, same, few, c.taken-place.ensures)

pub returns-in_ok-enter_new-in-Some : goal.returns-in_ok-enter_new-in-Some
returns-in_ok-enter_new-in-Some c =
    let is : slice_get (list_at c.args.lists.now c.args.from) (taken_at c.args.walk.now c.args.from) ≡ Some c.in-Some.to =
    ap (slice_get (list_at c.args.lists.now c.args.from)) (sym c.taken-place.ensures) ∙ sym c.in-Some.ensures.number in
    subst (Advances c.args.lists.now c.args.walk.now) (sym c.take.ensures)
    (advances c.args.lists.now c.args.walk.now c.requires.walk c.args.from c.requires.last c.requires.within c.in-Some.to is c.enter_new.new.walk c.in_ok-enter_new-in-Some.ensures)

pub returns-in_ok-leave-in-None : goal.returns-in_ok-leave-in-None
returns-in_ok-leave-in-None c =
    let is : slice_get (list_at c.args.lists.now c.args.from) (taken_at c.args.walk.now c.args.from) ≡ None =
    ap (slice_get (list_at c.args.lists.now c.args.from)) (sym c.taken-place.ensures) ∙ sym c.in-None.ensures.number in
    subst (Advances c.args.lists.now c.args.walk.now) (sym (c.in_ok-leave-in-None.ensures c.args.from c.requires.last.0 c.requires.last.1))
    (goes_back c.args.lists.now c.args.walk.now c.requires.walk c.args.from c.requires.last is)
