use Rattle.recursion_groups.proofs.Unique.{same_grouping}
use Rattle.recursion_groups.proofs.laws.grouping_laws.Goals as goal

pub returns : goal.returns
returns c g pss qss one other = same_grouping g pss qss one other
