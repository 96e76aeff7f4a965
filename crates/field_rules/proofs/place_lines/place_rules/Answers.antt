use Rattle.std.proofs.Common.{ℕ, ◌<◌, ◌≤◌, ◌++◌, List, length, take, sym, ap, ◌∙◌, subst}
use Rattle.std.specs.List.{All, flat_map}
use Rattle.field_rules.specs.Lists.{gather}
use Rattle.field_rules.specs.Lines.{bound_lines, one_base_lines}
use Rattle.field_rules.proofs.Pointers.{over_taken, pointers_are_slots, no_bounds}
use Rattle.field_rules.proofs.place_lines.place_rules.Goals as goal

pub push_bounds-requires-clause-slot : goal.push_bounds-requires-clause-slot
push_bounds-requires-clause-slot g c =
    let v = g.V.View.sight c.args.view.now in
    let within = subst (λ (xs : List ℕ). All (λ x. x < v.slots) xs) (sym c.pointers-pointers.ensures) (pointers_are_slots v) in
    within c.loop-y.y-index 0 c.loop-y-test.true

pub returns : goal.returns
returns g c =
    let v = g.V.View.sight c.args.view.now in
    let line = bound_lines v c.args.place in
    let all = over_taken v line c.loop-y.y-index (no_bounds v c.args.place c.requires.pointers) (subst (λ (xs : List ℕ). length xs ≤ c.loop-y.y-index) c.pointers-pointers.ensures c.loop-y-test.false) in
    let front = c.loop-y.invariant ∙ ap (λ (xs : List ℕ). flat_map line (take c.loop-y.y-index xs)) c.pointers-pointers.ensures ∙ all in
    c.in_ok-push_one_bases.ensures ∙ ap (λ zs. zs ++ gather v.slots (one_base_lines v c.args.place)) front
