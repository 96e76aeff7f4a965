use Rattle.std.proofs.Common.{◌-◌, ◌<◌, ◌∙◌, ℕ, List, length, get_or, ap, arith}
use Rattle.std.proofs.lemmas.List.{get_or_read}
use Rattle.std.specs.Prelude.{Option, None}
use Rattle.owner_vars.proofs.FieldLemmas.{known, targets_length}
use Rattle.owner_vars.proofs.field_table.Fields.target.Goals as goal

pub index-requires : goal.index-requires
index-requires c = omega (arith, targets_length _ _ _ _ _ _ c.self.view_is c.self.invariant, c.requires.some, c.requires.within, c.self.inside.targets.ok.0)

pub returns : goal.returns
returns c =
    let lt : c.args.field - 1 < length c.self.inside.targets.items = omega (arith, targets_length _ _ _ _ _ _ c.self.view_is c.self.invariant, c.requires.some, c.requires.within) in
    get_or_read c.self.inside.targets.items (c.args.field - 1) c.index.result.now lt c.index.ensures None
    ∙ ap (λ (us : List (Option ℕ)). get_or us (c.args.field - 1) None) (known _ _ _ _ _ _ c.self.view_is c.self.invariant).led
