use Rattle.std.proofs.Common.{sym}
use Rattle.transfer_rules.proofs.Spread.{spread_at}
use Rattle.transfer_rules.proofs.table.name_at.Goals as goal

pub returns : goal.returns
returns c = sym (spread_at c.args.names.now c.args.owners.now c.args.number 0 c.requires.owners)
