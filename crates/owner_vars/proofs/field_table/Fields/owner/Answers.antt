use Rattle.std.proofs.Common.{◌-◌, ◌<◌, ◌∙◌, ℕ, List, length, get_or, ap, arith}
use Rattle.std.proofs.lemmas.List.{get_or_read}
use Rattle.owner_vars.proofs.FieldLemmas.{known, owners_length}
use Rattle.owner_vars.proofs.field_table.Fields.owner.Goals as goal

pub index-requires : goal.index-requires
index-requires c = omega (arith, owners_length _ _ _ _ _ _ c.self.view_is c.self.invariant, c.requires.some, c.requires.within, c.self.inside.owners.ok.0)

pub returns : goal.returns
returns c =
    let lt : c.args.field - 1 < length c.self.inside.owners.items = omega (arith, owners_length _ _ _ _ _ _ c.self.view_is c.self.invariant, c.requires.some, c.requires.within) in
    get_or_read c.self.inside.owners.items (c.args.field - 1) c.index.result.now lt c.index.ensures 0
    ∙ ap (λ (us : List ℕ). get_or us (c.args.field - 1) 0) (known _ _ _ _ _ _ c.self.view_is c.self.invariant).owned
