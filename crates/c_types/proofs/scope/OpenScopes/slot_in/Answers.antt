use Rattle.std.proofs.Common.{ap, ◌∙◌}
use Rattle.c_types.specs.declared.scope.Scope.{Scope}
use Rattle.c_types.specs.Scopes.{slot_in}
use Rattle.c_types.proofs.Latest.{latest}
use Rattle.c_types.proofs.Visible.{latest_named}
use Rattle.c_types.proofs.scope.OpenScopes.slot_in.Goals as goal

pub returns : goal.returns
returns c =
    c.latest.ensures
    ∙ ap (latest c.self.inside.visible) c.place.ensures
    ∙ latest_named c.self.inside.slots c.self.inside.names c.args.name.now c.self.inside.visible c.self.invariant
    ∙ ap (λ (s : Scope). slot_in s c.args.name.now) c.self.view_is
