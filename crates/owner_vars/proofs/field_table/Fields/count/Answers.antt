use Rattle.std.proofs.Common.{arith}
use Rattle.owner_vars.proofs.FieldLemmas.{owners_length, fields_few}
use Rattle.owner_vars.proofs.field_table.Fields.count.Goals as goal

pub overflow_cast-result : goal.overflow_cast-result
overflow_cast-result c =
    omega (arith, c.len.ensures, owners_length _ _ _ _ _ _ c.self.view_is c.self.invariant, fields_few _ _ _ _ _ _ c.self.view_is c.self.invariant, c.self.inside.owners.ok.0)

pub returns : goal.returns
returns c = record {
  count = omega (arith, c.len.ensures, owners_length _ _ _ _ _ _ c.self.view_is c.self.invariant, c.self.inside.owners.ok.0);
  small = omega (arith, c.len.ensures, owners_length _ _ _ _ _ _ c.self.view_is c.self.invariant, fields_few _ _ _ _ _ _ c.self.view_is c.self.invariant, c.self.inside.owners.ok.0);
}
