use Rattle.std.proofs.Common.{◌<◌, length, ◌∙◌, sym, subst, arith}
use Rattle.recursion_groups.specs.Grouping.{IsGrouping}
use Rattle.recursion_groups.proofs.Each.{group_read}
use Rattle.worked_examples.proofs.unknowns.number_group.Goals as goal

pub number-requires-clause-ascend : goal.number-requires-clause-ascend
number-requires-clause-ascend c =
    let grouping = subst (IsGrouping c.args.graph.now) (sym c.groups-2.view_is) c.in_ok-groups.ensures.grouping in
    let within : c.args.group < length c.groups-2.inside.items.items = omega (arith, c.if-len-group.false, c.len.ensures, c.groups-2.inside.items.ok.0) in
    (group_read _ _ _ _ _ grouping within c.index-members.ensures (c.deref.ensures.value ∙ c.members.view_is)).ascend

pub number-requires-clause-bodies : goal.number-requires-clause-bodies
number-requires-clause-bodies c =
    let grouping = subst (IsGrouping c.args.graph.now) (sym c.groups-2.view_is) c.in_ok-groups.ensures.grouping in
    let within : c.args.group < length c.groups-2.inside.items.items = omega (arith, c.if-len-group.false, c.len.ensures, c.groups-2.inside.items.ok.0) in
    (group_read _ _ _ _ _ grouping within c.index-members.ensures (c.deref.ensures.value ∙ c.members.view_is)).bodies
