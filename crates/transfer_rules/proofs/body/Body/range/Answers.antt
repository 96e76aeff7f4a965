use Rattle.std.proofs.Common.{◌≡◌, ap, arith}
use Rattle.owner_vars.specs.Unknowns.{field_count}
use Rattle.transfer_rules.proofs.Few.{few_fields}
use Rattle.transfer_rules.proofs.body.Body.range.Goals as goal

pub returns-clause-small : goal.returns-clause-small
returns-clause-small c =
    let few = few_fields c.self.inside.graph.now c.self.invariant.graph in
    let same : field_count c.self.inside.fields.now ≡ field_count c.self.inside.graph.now = ap field_count c.self.invariant.fields in
    let within = c.range.ensures.within in
    omega arith
