use Rattle.std.proofs.Common.{◌≡◌, ◌<◌, ℕ, List, length, get_or, ap, arith, rules}
use Rattle.cert_checker.proofs.GroupedLemmas.{marks_more}
use Rattle.cert_checker.proofs.grouped.mark_group.Goals as goal

pub loop-member-preserved : goal.loop-member-preserved
loop-member-preserved c =
    let same : c.deref-member-items.result.now ≡ c.args.members.now = search rules in
    let lt : c.loop-member.member-index < length c.args.members.now = (let e = ap length same in omega arith) in
    marks_more c.args.numbers.now.items c.loop-member.numbers.items c.args.members.now c.args.group c.loop-member.member-index (get_or c.deref-member-items.result.now c.loop-member.member-index 0) lt
    (ap (λ (ms : List ℕ). get_or ms c.loop-member.member-index 0) same) c.requires c.loop-member.invariant
