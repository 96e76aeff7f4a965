use Rattle.std.proofs.Common.{◌≡◌, ◌<◌, ◌-◌, ◌+◌, ℕ, List, length, get_or, sym, ap, ◌∙◌, subst, arith, rules}
use Rattle.transfer_rules.specs.Programs.{Parts}
use Rattle.cert_checker.specs.Grouped.{MarksGroup}
use Rattle.cert_checker.proofs.GroupedLemmas.{group_within, numbers_more}
use Rattle.cert_checker.proofs.grouped.group_numbers.Goals as goal

pub mark_group-requires : goal.mark_group-requires
mark_group-requires c =
    let p = c.args.program.now in
    let same : c.as_slice-groups.result.now ≡ p.groups = search rules in
    let lt : c.loop-done.done < length p.groups = (let e = ap length same in omega arith) in
    let is : c.index-groups-group.result ≡ get_or p.groups (length p.groups - 1 - c.loop-done.done) c.index-groups-group.result =
    subst (λ (gs : List (List ℕ)). c.index-groups-group.result ≡ get_or gs (length gs - 1 - c.loop-done.done) c.index-groups-group.result) same c.index-groups-group.is in
    group_within p.graph p.groups (length p.groups - 1 - c.loop-done.done) c.index-groups-group.result c.loop-done.numbers.items c.law.ensures.groups (omega (arith, lt)) is c.loop-done.invariant.count

pub loop-done-preserved : goal.loop-done-preserved
loop-done-preserved c =
    let p = c.args.program.now in
    let same : c.as_slice-groups.result.now ≡ p.groups = search rules in
    let lt : c.loop-done.done < length p.groups = (let e = ap length same in omega arith) in
    let is : c.index-groups-group.result ≡ get_or p.groups (length p.groups - 1 - c.loop-done.done) c.index-groups-group.result =
    subst (λ (gs : List (List ℕ)). c.index-groups-group.result ≡ get_or gs (length gs - 1 - c.loop-done.done) c.index-groups-group.result) same c.index-groups-group.is in
    let marks : MarksGroup c.loop-done.numbers.items c.mark_group.new.numbers.items c.index-groups-group.result (length p.groups - 1 - c.loop-done.done) =
    subst (λ (gs : List (List ℕ)). MarksGroup c.loop-done.numbers.items c.mark_group.new.numbers.items c.index-groups-group.result (length gs - 1 - c.loop-done.done)) same c.mark_group.ensures in
    numbers_more p.graph.bodies p.groups c.loop-done.done c.index-groups-group.result c.loop-done.numbers.items c.mark_group.new.numbers.items lt is c.loop-done.invariant marks
