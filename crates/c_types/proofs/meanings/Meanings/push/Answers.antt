use Rattle.std.proofs.Common.{List, Some, None, set, sym, subst, ◌∙◌}
use Rattle.std.proofs.lemmas.List.{get_or_default}
use Rattle.c_types.specs.declared.meanings.Meaning.{Meaning}
use Rattle.c_types.proofs.Latest.{Tells, tells_pushed}
use Rattle.c_types.proofs.meanings.Meanings.push.Goals as goal

pub invariant_of-self-2 : goal.invariant_of-self-2
invariant_of-self-2 c =
    let g : Meaning = record { name = c.args.name; slot = c.args.slot; before = c.index-before.result.now } in
    subst (λ (gs : List Meaning). Tells (set c.reach.new.row.items c.args.name (Some c.args.slot)) gs) (sym c.in_ok-push.ensures.items)
    (tells_pushed c.self.inside.latest.items c.reach.new.row.items c.self.inside.given.items g c.self.invariant c.reach.ensures.same c.in_ok-reach.ensures.reached (c.index-before.ensures ∙ get_or_default c.reach.new.row.items c.args.name c.index-before.result.now None c.in_ok-reach.ensures.reached))
