use Rattle.std.proofs.Common.{refl}
use Rattle.std.proofs.lemmas.List.Filters.{dedup_is}
use Rattle.std.proofs.lemmas.List.Kept.{IsStrictlySortedBy-dedup, Contains-dedup, Contains-from_dedup}
use Rattle.std.proofs.lemmas.List.Sorted.{Contains-permutation, IsPermutation-sym}
use Rattle.std.specs.Cmp.{eq_by_cmp_equiv}
use Rattle.plain_answers.specs.Orders.{want_order_total}
use Rattle.plain_answers.proofs.OrderLemmas.{want_same}
use Rattle.plain_answers.proofs.wants.in_order.Goals as goal

pub returns : goal.returns
returns c =
    let is = dedup_is _ _ _ c.dedup.ensures.filtered in
    let moved = c.sort_unstable.ensures.permutation in
    record {
      sorted = rw is (IsStrictlySortedBy-dedup want_order_total (λ x y. refl) _ c.sort_unstable.ensures.sorted);
      kept = λ q h. rw is (Contains-dedup (eq_by_cmp_equiv want_order_total) want_same _ q (Contains-permutation _ _ q moved h));
      from = λ q h. Contains-permutation _ _ q (IsPermutation-sym _ _ moved) (Contains-from_dedup _ _ q (rw is at h));
    }
