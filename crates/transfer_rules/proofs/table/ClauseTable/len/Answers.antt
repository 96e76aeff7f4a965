use Rattle.std.proofs.Common.{length, ap, arith}
use Rattle.transfer_rules.specs.Table.{spread}
use Rattle.transfer_rules.proofs.TableLemmas.{rows_length}
use Rattle.transfer_rules.proofs.table.ClauseTable.len.Goals as goal

pub returns : goal.returns
returns c =
    let a = rows_length (spread c.self.inside.names.items c.self.inside.owners.items) c.self.inside.ends.items c.self.inside.lits.items c.self.invariant.table in
    let b = ap length c.self.view_is in
    let d = ap length c.as_slice.ensures.value in
    omega arith
