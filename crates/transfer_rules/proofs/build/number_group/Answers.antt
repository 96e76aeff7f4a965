use Rattle.std.proofs.Common.{◌<◌, [], sym, subst}
use Rattle.std.specs.List.{All}
use Rattle.std.specs.List.Sorted.{IsStrictlyIncreasing}
use Rattle.transfer_rules.proofs.Groupings.{group_is}
use Rattle.transfer_rules.proofs.build.number_group.Goals as goal

pub number_with-requires-clause-ascend : goal.number_with-requires-clause-ascend
number_with-requires-clause-ascend c =
    subst IsStrictlyIncreasing (sym c.members_of-members.ensures) (group_is c.args.graph.now c.args.groups.now c.requires.grouping c.args.k [] c.requires.group).ascend

pub number_with-requires-clause-bodies : goal.number_with-requires-clause-bodies
number_with-requires-clause-bodies c =
    subst (All (λ k. k < c.args.graph.now.bodies)) (sym c.members_of-members.ensures) (group_is c.args.graph.now c.args.groups.now c.requires.grouping c.args.k [] c.requires.group).bodies
