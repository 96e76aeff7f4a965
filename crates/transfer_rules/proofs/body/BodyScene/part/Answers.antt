use Rattle.std.proofs.Common.{ℕ, Option, sym, ap, subst, ◌∙◌}
use Rattle.std.specs.List.{Contains}
use Rattle.owner_vars.specs.Sites.{site_at}
use Rattle.transfer_rules.specs.Body.{Body, setting, part_at}
use Rattle.transfer_rules.proofs.body.BodyScene.part.Goals as goal

pub pi-requires : goal.pi-requires
pi-requires c =
    let view = c.self.view_is in
    let has = ap (λ (b : Body). (setting b).has_part c.args.place c.args.callee c.args.part) view ∙ c.requires.part in
    let none = ap (λ (b : Body). site_at b.graph b.members b.proc c.args.place) view ∙ sym c.in-None.ensures in
    let There : Option ℕ → Type 0 = λ o. Contains c.self.inside.numbers.now (part_at o c.args.callee c.args.part) in
    subst There none (c.self.invariant.unknowns.part c.args.place c.args.callee c.args.part has)
