use Rattle.std.proofs.Common.{◌≡◌, ◌<◌, ◌++◌, ℕ, List, Some, sym, ap, ◌∙◌, subst, rules}
use Rattle.std.specs.Prelude.{OnOk}
use Rattle.std.specs.List.{All, flat_map}
use Rattle.field_rules.specs.Sight.{over_range}
use Rattle.field_rules.specs.Lines.{later, base_line}
use Rattle.field_rules.proofs.Pointers.{after_bases, others_are_slots}
use Rattle.field_rules.proofs.place_lines.push_bases.Goals as goal

pub push_fields-requires-clause-others : goal.push_fields-requires-clause-others
push_fields-requires-clause-others g c =
    let v = g.V.View.sight c.args.view.now in
    let e : c.deref.result.now ≡ flat_map (later c.args.y) c.args.bases.now = search rules in
    let is = e ∙ ap (flat_map (later c.args.y)) c.requires.bases ∙ after_bases v c.args.place c.args.y c.args.structure in
    subst (λ (zs : List ℕ). All (λ z. (z < v.slots) × (v.structure z ≡ Some c.args.structure)) zs) (sym is) (others_are_slots v c.args.place c.args.y c.args.structure)

pub returns : goal.returns
returns g c =
    let v = g.V.View.sight c.args.view.now in
    let e : c.deref.result.now ≡ flat_map (later c.args.y) c.args.bases.now = search rules in
    let is = e ∙ ap (flat_map (later c.args.y)) c.requires.bases ∙ after_bases v c.args.place c.args.y c.args.structure in
    let P : List ℕ → Type 0 = λ zs. OnOk c.push_fields.result (c.push_fields.new.out.items ≡ c.args.out.now.items ++ over_range (v.fields_of c.args.structure) (base_line v c.args.place c.args.y zs)) in
    subst P is c.push_fields.ensures
