use Rattle.std.proofs.Common.{◌≡◌, ℕ, ◌<◌, ◌≤◌, ◌++◌, List, length, take, sym, ap, ◌∙◌, subst}
use Rattle.std.specs.List.{All, flat_map}
use Rattle.field_rules.specs.Sight.{pointers}
use Rattle.field_rules.specs.Lines.{call_lines}
use Rattle.field_rules.proofs.Pointers.{over_taken, pointers_are_slots, no_call}
use Rattle.field_rules.proofs.edge_lines.push_call.Goals as goal

pub push_closed-requires-clause-slot : goal.push_closed-requires-clause-slot
push_closed-requires-clause-slot g c =
    let v = g.V.View.sight c.args.view.now in
    let within = subst (λ (xs : List ℕ). All (λ x. x < v.slots) xs) (sym c.pointers-pointers.ensures) (pointers_are_slots v) in
    within c.loop-y.y-index 0 c.loop-y-test.true

pub returns : goal.returns
returns g c =
    let v = g.V.View.sight c.args.view.now in
    let all : flat_map (call_lines v c.args.args.now c.args.from) (take c.loop-y.y-index (pointers v)) ≡ _ = over_taken v (call_lines v c.args.args.now c.args.from) c.loop-y.y-index (no_call v c.args.args.now c.args.from c.requires.pointers) (subst (λ (xs : List ℕ). length xs ≤ c.loop-y.y-index) c.pointers-pointers.ensures c.loop-y-test.false) in
    c.loop-y.invariant ∙ ap (λ zs. c.args.out.now.items ++ zs) (ap (λ (xs : List ℕ). flat_map (call_lines v c.args.args.now c.args.from) (take c.loop-y.y-index xs)) c.pointers-pointers.ensures ∙ all)
