use Rattle.transfer_rules.proofs.Groupings.{all_ascend, all_bodies}
use Rattle.transfer_rules.proofs.build.program.Goals as goal

pub new-requires-clause-ascend : goal.new-requires-clause-ascend
new-requires-clause-ascend c = all_ascend c.in_ok-graph.graph c.in_ok-groups.groups c.in_ok-groups.ensures.grouping

pub new-requires-clause-bodies : goal.new-requires-clause-bodies
new-requires-clause-bodies c = all_bodies c.in_ok-graph.graph c.in_ok-groups.groups c.in_ok-groups.ensures.grouping
