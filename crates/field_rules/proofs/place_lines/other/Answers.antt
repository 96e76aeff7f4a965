use Rattle.std.proofs.Common.{◌≡◌, ℕ, ◌<◌, List, Some, sym, subst, rules}
use Rattle.std.specs.List.{All}
use Rattle.field_rules.specs.Lines.{other}
use Rattle.field_rules.proofs.Pointers.{other_is_slot}
use Rattle.field_rules.proofs.place_lines.other.Goals as goal

pub returns-clause-there : goal.returns-clause-there
returns-clause-there g c =
    let v = g.V.View.sight c.args.view.now in
    let is : c.push_other.new.out.items ≡ other v c.args.place c.args.y c.args.structure c.args.z = search rules in
    subst (λ (zs : List ℕ). All (λ z. (z < v.slots) × (v.structure z ≡ Some c.args.structure)) zs) (sym is)
    (other_is_slot v c.args.place c.args.y c.args.structure c.args.z c.requires.slot)
