use Rattle.std.proofs.Common.{ℕ, ◌<◌, ◌≤◌, List, length, take, sym, ap, ◌∙◌, subst}
use Rattle.std.specs.List.{All, flat_map}
use Rattle.field_rules.specs.Lines.{base_at}
use Rattle.field_rules.proofs.Pointers.{over_taken, pointers_are_slots, no_base}
use Rattle.field_rules.proofs.bases.bases.Goals as goal

pub add_base-requires-clause-slot : goal.add_base-requires-clause-slot
add_base-requires-clause-slot g c =
    let v = g.V.View.sight c.args.view.now in
    let within = subst (λ (xs : List ℕ). All (λ x. x < v.slots) xs) (sym c.pointers-pointers.ensures) (pointers_are_slots v) in
    within c.loop-z.z-index 0 c.loop-z-test.true

pub returns : goal.returns
returns g c = λ s.
    let v = g.V.View.sight c.args.view.now in
    let line = base_at v c.args.place s in
    let all = over_taken v line c.loop-z.z-index (no_base v c.args.place s c.requires.pointers) (subst (λ (xs : List ℕ). length xs ≤ c.loop-z.z-index) c.pointers-pointers.ensures c.loop-z-test.false) in
    c.loop-z.invariant s ∙ ap (λ (xs : List ℕ). flat_map line (take c.loop-z.z-index xs)) c.pointers-pointers.ensures ∙ all
