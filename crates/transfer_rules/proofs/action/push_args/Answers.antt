use Rattle.std.proofs.Common.{ℕ, ◌≤◌, ◌++◌, List, length, take, ap, subst, ◌∙◌}
use Rattle.std.specs.List.{flat_map}
use Rattle.field_rules.proofs.Pointers.{over_taken}
use Rattle.transfer_rules.specs.Rules.{call_arg_of}
use Rattle.transfer_rules.proofs.Silent.{no_arg}
use Rattle.transfer_rules.proofs.action.push_args.Goals as goal

pub returns : goal.returns
returns g c =
    let v = g.S.View.sight c.args.scene.now in
    let s = g.S.Scene.setting c.args.scene.now in
    let line = call_arg_of v s c.args.way.from c.args.way.number c.args.args.now in
    let all = over_taken v line c.loop-u.u-index (no_arg v s c.args.way.from c.args.way.number c.args.args.now c.requires) (subst (λ (xs : List ℕ). length xs ≤ c.loop-u.u-index) c.pointers-pointers.ensures c.loop-u-test.false) in
    c.loop-u.invariant ∙ ap (λ zs. c.args.out.now.items ++ zs) (ap (λ (xs : List ℕ). flat_map line (take c.loop-u.u-index xs)) c.pointers-pointers.ensures ∙ all)
