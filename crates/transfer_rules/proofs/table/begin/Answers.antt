use Rattle.std.proofs.Common.{ap, sym}
use Rattle.transfer_rules.specs.Table.{start}
use Rattle.transfer_rules.proofs.Pieces.{begin_is}
use Rattle.transfer_rules.proofs.table.begin.Goals as goal

pub returns : goal.returns
returns c = begin_is c.args.number c.args.ends.now c.if-number-eq0.false c.requires

pub returns-then-number-eq0 : goal.returns-then-number-eq0
returns-then-number-eq0 c = ap (start 0 c.args.ends.now) (sym c.if-number-eq0.true)
