use Rattle.std.proofs.Common.{◌+◌, ◌≤◌, ◌∙◌, sym, ap, subst}
use Rattle.zo_core.specs.declared.number_range.NumberRange.{NumberRange}
use Rattle.owner_vars.specs.Unknowns.{field_count}
use Rattle.owner_vars.specs.Tables.{StructRow}
use Rattle.owner_vars.proofs.FieldLemmas.{range_known}
use Rattle.owner_vars.proofs.field_table.Fields.range.Goals as goal

pub returns : goal.returns
returns c =
    let k = range_known _ _ _ _ _ _ c.self.view_is c.self.invariant c.args.structure c.index-row.result.now c.requires c.index-row.ensures in
    let e = ap (λ (q : StructRow). q.range) c.row.view_is in
    record {
      range = e ∙ k.0;
      within = subst (λ (q : NumberRange). q.first + q.count ≤ field_count c.args.self.now + 1) (sym e) k.1;
      few = subst (λ (q : NumberRange). q.count ≤ 64) (sym e) k.2;
    }
