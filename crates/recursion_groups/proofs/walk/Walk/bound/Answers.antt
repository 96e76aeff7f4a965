use Rattle.std.proofs.Common.{◌∙◌, ap, sym, reverse}
use Rattle.recursion_groups.specs.Walks.{Walked}
use Rattle.recursion_groups.proofs.WalkLemmas.{last_first}
use Rattle.recursion_groups.proofs.walk.Walk.bound.Goals as goal

pub returns : goal.returns
returns c =
    let h = last_first c.deref.result.now c.in_ok-bound.bound.now (sym c.in_ok-bound.ensures.value) in
    (h.0, sym (ap (λ (s : Walked). s.bounds) c.self.view_is) ∙ ap reverse (sym c.deref.ensures.value) ∙ h.1)
