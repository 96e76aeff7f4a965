use Rattle.std.proofs.Common.{ℕ, List, sym, subst}
use Rattle.std.specs.List.{All}
use Rattle.field_rules.specs.Sight.{IsField}
use Rattle.field_rules.proofs.Pointers.{fields_to_are_fields}
use Rattle.field_rules.proofs.edge_lines.phis_to.Goals as goal

pub phi-requires : goal.phi-requires
phi-requires g c =
    let v = g.V.View.sight c.args.view.now in
    let within = subst (λ (xs : List ℕ). All (IsField v) xs) (sym c.fields_to-fields.ensures) (fields_to_are_fields v c.args.structure) in
    within c.loop-field.field-index 0 c.loop-field-test.true
