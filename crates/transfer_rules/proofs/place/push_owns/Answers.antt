use Rattle.std.proofs.Common.{ℕ, ◌<◌, ◌≤◌, ◌++◌, List, length, take, sym, ap, subst, ◌∙◌}
use Rattle.std.specs.List.{All, flat_map}
use Rattle.field_rules.proofs.Pointers.{over_taken, pointers_are_slots}
use Rattle.transfer_rules.specs.Rules.{exit_own}
use Rattle.transfer_rules.proofs.Silent.{no_own}
use Rattle.transfer_rules.proofs.place.push_owns.Goals as goal

pub push_own-requires : goal.push_own-requires
push_own-requires g c =
    let v = g.S.View.sight c.args.scene.now in
    let within = subst (λ (xs : List ℕ). All (λ x. x < v.slots) xs) (sym c.pointers-pointers.ensures) (pointers_are_slots v) c.loop-x.x-index 0 c.loop-x-test.true in
    record { place = c.requires; slot = within }

pub returns : goal.returns
returns g c =
    let v = g.S.View.sight c.args.scene.now in
    let s = g.S.Scene.setting c.args.scene.now in
    let line = exit_own v s c.args.place in
    let all = over_taken v line c.loop-x.x-index (no_own v s c.args.place) (subst (λ (xs : List ℕ). length xs ≤ c.loop-x.x-index) c.pointers-pointers.ensures c.loop-x-test.false) in
    c.loop-x.invariant ∙ ap (λ zs. c.args.out.now.items ++ zs) (ap (λ (xs : List ℕ). flat_map line (take c.loop-x.x-index xs)) c.pointers-pointers.ensures ∙ all)
