use Rattle.std.proofs.Common.{◌≡◌, ◌≤◌, suc, [], ◌∷◌, length, ap, ◌∙◌, add-one, arith}
use Rattle.std.proofs.lemmas.List.{length-append}
use Rattle.lit_region.proofs.Order.{in_order_push, in_order_more}
use Rattle.lit_region.proofs.tests.kept.Goals as goal
use Rattle.lit_region.proofs.tests.kept.Goals.{then-is_chosen+in_ok-push, else-is_chosen}

pub loop-number-preserved : goal.loop-number-preserved
loop-number-preserved c =
    let put = c.in-Some.ensures.put (omega arith) in
    let grew = ap length put.1 in
    let sum = length-append c.loop-number.region.clauses (c.pair.result ∷ []) in
    let count : length c.put.new.self.clauses ≡ suc (length c.loop-number.region.clauses) = omega arith in
    let at : c.in-Some.at ≡ suc (length c.loop-number.region.clauses) = put.0 ∙ add-one (length c.loop-number.region.clauses) in
    let old = length c.loop-number.region.clauses in
    let from : 0 ≤ old = omega arith in
    let grows : old ≤ suc old = omega arith in
    elim c.if-is_chosen.branch [
      | then-is_chosen+in_ok-push w ↦
          rw (w.live-is, w.in_ok-push.ensures.items, at, count) (in_order_push 0 old c.loop-number.live.items from c.loop-number.invariant)
      | else-is_chosen w ↦ rw (w.live-is, count) (in_order_more 0 old (suc old) c.loop-number.live.items grows c.loop-number.invariant)
    ]
