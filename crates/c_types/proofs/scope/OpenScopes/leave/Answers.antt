use Rattle.std.proofs.Common.{ℕ, List, map, take, sym, ap, ◌∙◌}
use Rattle.std.proofs.lemmas.List.{take-map}
use Rattle.c_types.specs.declared.scope.Scope.{Scope}
use Rattle.c_types.proofs.scope.OpenScopes.leave.Goals as goal

pub returns : goal.returns
returns c =
    let o = c.args.outside in
    let seen : List ℕ → Scope = λ is. record { slots = c.self.inside.slots; visible = is; outer = o.outer } in
    ap (λ gs. seen (map (λ (g : ℕ × ℕ). g.1) gs)) c.truncate.ensures
    ∙ ap seen (sym (take-map (λ (g : ℕ × ℕ). g.1) o.visible c.self.inside.visible))
    ∙ ap (λ (s : Scope). let t : Scope = record { slots = s.slots; visible = take o.visible s.visible; outer = o.outer } in t) c.self.view_is
