use Rattle.std.proofs.Common.{◌≡◌, ◌∙◌, ap, sym, reverse}
use Rattle.annotate.specs.Walks.{Walked}
use Rattle.annotate.proofs.WalkRows.{last_first}
use Rattle.annotate.proofs.walk.Walk.last.Goals as goal

pub returns : goal.returns
returns c =
    let h = last_first c.deref.result.now c.in_ok-last.last.now (sym c.in_ok-last.ensures.value) in
    (h.0, sym (ap (λ (s : Walked). s.path) c.self.view_is) ∙ ap reverse (sym c.deref.ensures.value) ∙ h.1)
