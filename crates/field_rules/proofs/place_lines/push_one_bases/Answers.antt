use Rattle.std.proofs.Common.{◌≡◌, ℕ, ◌<◌, ◌≤◌, ◌++◌, List, length, take, sym, ap, ◌∙◌, subst}
use Rattle.std.specs.List.{All, flat_map}
use Rattle.field_rules.specs.Sight.{pointers}
use Rattle.field_rules.specs.Lines.{one_base_lines}
use Rattle.field_rules.proofs.Pointers.{over_taken, pointers_are_slots, no_bases}
use Rattle.field_rules.proofs.place_lines.push_one_bases.Goals as goal

pub push_one_base-requires-clause-slot : goal.push_one_base-requires-clause-slot
push_one_base-requires-clause-slot g c =
    let v = g.V.View.sight c.args.view.now in
    let within = subst (λ (xs : List ℕ). All (λ x. x < v.slots) xs) (sym c.pointers-pointers.ensures) (pointers_are_slots v) in
    within c.loop-y.y-index 0 c.loop-y-test.true

pub returns : goal.returns
returns g c =
    let v = g.V.View.sight c.args.view.now in
    let all : flat_map (one_base_lines v c.args.place) (take c.loop-y.y-index (pointers v)) ≡ _ = over_taken v (one_base_lines v c.args.place) c.loop-y.y-index (no_bases v c.args.place c.requires.pointers) (subst (λ (xs : List ℕ). length xs ≤ c.loop-y.y-index) c.pointers-pointers.ensures c.loop-y-test.false) in
    c.loop-y.invariant ∙ ap (λ zs. c.args.out.now.items ++ zs) (ap (λ (xs : List ℕ). flat_map (one_base_lines v c.args.place) (take c.loop-y.y-index xs)) c.pointers-pointers.ensures ∙ all)
