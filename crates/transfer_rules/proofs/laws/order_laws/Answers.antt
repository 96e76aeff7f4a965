use Rattle.transfer_rules.proofs.GroupAscent.{names_ascend}
use Rattle.transfer_rules.proofs.laws.order_laws.Goals as goal

pub returns : goal.returns
returns c = names_ascend
